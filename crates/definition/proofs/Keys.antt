-- The numbers of the names, one after the other.
use mathlib.Core.Path.{◌≡◌, sym, ap, ◌∙◌}
use mathlib.Core.Logic.{⊎_elim}
use mathlib.Core.List.{List}
use Prim.Native.Nat.{ℕ, ◌+◌, ◌≤◌, ◌<◌}
use native.Mathlib.Nat.{eq-or-lt_of_le}
use native.Mathlib.Omega.{arith}
use lib.IntN.{ℤ}
use lib.ListN.{length, get_or, set}
use lib.Seq.{get_or-set_same, get_or-set_other}
use Rattle.names.specs.Name.{key_of}
use Rattle.names.specs.Clash.{fault_of}
use Rattle.names.proofs.Standards.{keys_fault}
use Rattle.definition.specs.Code.{name_in, NamesJudged}

pub keys_more : (f : ℕ → ℕ) (keys : List ℕ) (i k : ℕ) → i < length keys → ((j : ℕ) → j < i → get_or keys j 0 ≡ f j) → k ≡ f i → (j : ℕ) → j
    < i + 1 → get_or (set keys i k) j 0 ≡ f j
keys_more f keys i k h g e j l = ⊎_elim here before (eq-or-lt_of_le le)
  where
    le : j ≤ i
    le = omega arith

    here : j ≡ i → get_or (set keys i k) j 0 ≡ f j
    here q = rw q (get_or-set_same keys i k 0 h ∙ e)

    before : j < i → get_or (set keys i k) j 0 ≡ f j
    before m = get_or-set_other keys i j k 0 (λ q. omega arith) ∙ g j m

pub names_judged : (d : List ℕ) (rows : List ℤ) (keys : List ℕ) (count i r : ℕ) → i ≡ count
    → ((j : ℕ) → j < i → get_or keys j 0 ≡ key_of 0 0 (name_in d rows j)) → r ≡ fault_of keys count → NamesJudged d rows count r
names_judged d rows keys count i r q g e = record {
  fault_is = λ names l h. e ∙ ap (fault_of keys) (sym l)
      ∙ keys_fault keys names (λ j m. g j (omega (arith, l)) ∙ ap (key_of 0 0) (h j (omega (arith, l))));
}
