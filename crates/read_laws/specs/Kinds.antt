-- What follows from rule/Kinds.antt, and what the code keeps.
use Rattle.std.proofs.Math.Path.{◌≡◌, refl, ap}
use Rattle.std.proofs.Common.{◌∙◌, ⊎_elim, arith, eqb-true}
use Rattle.std.specs.Prelude.{◌⊎◌, Bool, ◌&&◌, ◌||◌, List, [], ◌∷◌, ℕ, eqb, ℤ, pos, length}
use Rattle.std.proofs.Math.Logic.{inl, inr}
use Rattle.std.proofs.Math.Bool.{true, false, cond}
use Rattle.below.specs.Below.{holds_not}
use Rattle.cells.specs.rule.Cell.{eq_z}
use Rattle.cells.specs.Cell.{same_true, same_self}
use Rattle.layout.specs.declared.Format.{Format}
use Rattle.fields.specs.rule.Number.{Said, blank, says, wrong, all_spaces, code_of, quantity_of}
use Rattle.fields.specs.rule.Field.{missing, number, members, holds, illegal, number_field, single_says}
use Rattle.fields.specs.rule.Field.{single_field, quantity_says, quantity_field, all_bits, set_bits, bits_field}
use Rattle.numbers.specs.rule.Format.{FormatFacts}
use Rattle.read_laws.specs.rule.Forms.{Spaces, CodeForm, QuantityForm}
use Rattle.read_laws.specs.Forms.{code_exactly, code_blank_exactly, quantity_exactly}
use Rattle.read_laws.specs.rule.Kinds.{BitForm, stop, zero_bit, one_bit}

-- ---- zero or not
pub zero_not : (z : ℤ) → (z ≡ pos 0 → ⊥) → eq_z z (pos 0) ≡ false
zero_not z h = go (eq_z z (pos 0)) refl
  where
    go : (c : Bool) → eq_z z (pos 0) ≡ c → c ≡ false
    go true e = absurd (h (same_true z (pos 0) e))
    go false e = refl

pub not_zero : (z : ℤ) → eq_z z (pos 0) ≡ false → z ≡ pos 0 → ⊥
not_zero z e q = holds_not (rw q (same_self (pos 0))) e

module _ (ok : ℤ → Bool) (s : List ℕ) (z : ℤ) where
  -- ---- SINGLE reads as a number exactly when its bytes are spaces, then digits, that say it, it is not zero, and it is legal
  pub record SingleForm : Type 0 where
    pub form : CodeForm s z
    pub some : z ≡ pos 0 → ⊥
    pub legal_number : ok z ≡ true

  single_by : (x : Said) → code_of s ≡ x → single_says ok x ≡ holds (number z) → SingleForm
  unfolding single_says number_field
  single_by blank u e = let k : ◌≡◌ {A = ℕ} 0 1 = cc in absurd (omega arith)
  single_by wrong u e = let k : ◌≡◌ {A = ℕ} 0 1 = cc in absurd (omega arith)
  single_by (says y) u e = go (eq_z y (pos 0)) refl (ok y) refl e
    where
      go : (c : Bool) → eq_z y (pos 0) ≡ c → (d : Bool) → ok y ≡ d
          → cond c (holds missing) (cond d (holds (number y)) illegal) ≡ holds (number z) → SingleForm
      go true a d b q = let k : ◌≡◌ {A = ℕ} 0 1 = cc in absurd (omega arith)
      go false a false b q = let k : ◌≡◌ {A = ℕ} 0 1 = cc in absurd (omega arith)
      go false a true b q =
          let w : y ≡ z = cc in
          record { form = (code_exactly s z).0 (u ∙ ap says w); some = not_zero z (rw w at a); legal_number = rw w at b }

  single_of : SingleForm → single_field ok s ≡ holds (number z)
  unfolding single_says number_field
  single_of f = rw ((code_exactly s z).1 f.form, zero_not z f.some, f.legal_number)

  pub single_exactly : (single_field ok s ≡ holds (number z) → SingleForm) × (SingleForm → single_field ok s ≡ holds (number z))
  single_exactly = (λ e. single_by (code_of s) refl e, single_of)

  -- ---- QUANTITY reads as a number exactly when its bytes have its form, say it, and it is legal
  module _ (f : Format) (facts : FormatFacts f) where
    quantity_by : (x : Said) → quantity_of f s ≡ x → quantity_says ok x ≡ holds (number z) → QuantityForm f s z × (ok z ≡ true)
    unfolding quantity_says number_field
    quantity_by blank u e = let k : ◌≡◌ {A = ℕ} 0 1 = cc in absurd (omega arith)
    quantity_by wrong u e = let k : ◌≡◌ {A = ℕ} 0 1 = cc in absurd (omega arith)
    quantity_by (says y) u e = go (ok y) refl e
      where
        go : (d : Bool) → ok y ≡ d → cond d (holds (number y)) illegal ≡ holds (number z) → QuantityForm f s z × (ok z ≡ true)
        go false b q = let k : ◌≡◌ {A = ℕ} 0 1 = cc in absurd (omega arith)
        go true b q = let w : y ≡ z = cc in ((quantity_exactly f facts s z).0 (u ∙ ap says w), rw w at b)

    quantity_of_lem : QuantityForm f s z → ok z ≡ true → quantity_field f ok s ≡ holds (number z)
    unfolding quantity_says number_field
    quantity_of_lem g l = rw ((quantity_exactly f facts s z).1 g, l)

    pub quantity_number_exactly : (quantity_field f ok s ≡ holds (number z)
        → QuantityForm f s z × (ok z ≡ true)) × (QuantityForm f s z → ok z ≡ true → quantity_field f ok s ≡ holds (number z))
    quantity_number_exactly = (λ e. quantity_by (quantity_of f s) refl e, quantity_of_lem)

module _ (ok : ℤ → Bool) (s : List ℕ) where
  -- ---- SINGLE is missing exactly when its bytes are spaces, or spaces and digits that say zero
  missing_by : (x : Said) → code_of s ≡ x → single_says ok x ≡ holds missing → Spaces s ⊎ CodeForm s (pos 0)
  unfolding single_says number_field
  missing_by blank u e = inl ((code_blank_exactly s).0 u)
  missing_by wrong u e = let k : ◌≡◌ {A = ℕ} 0 1 = cc in absurd (omega arith)
  missing_by (says y) u e = go (eq_z y (pos 0)) refl (ok y) e
    where
      go : (c : Bool) → eq_z y (pos 0) ≡ c → (d : Bool)
          → cond c (holds missing) (cond d (holds (number y)) illegal) ≡ holds missing → Spaces s ⊎ CodeForm s (pos 0)
      go true a d q = inr ((code_exactly s (pos 0)).0 (u ∙ ap says (same_true y (pos 0) a)))
      go false a true q = let k : ◌≡◌ {A = ℕ} 0 1 = cc in absurd (omega arith)
      go false a false q = let k : ◌≡◌ {A = ℕ} 0 1 = cc in absurd (omega arith)

  blank_missing : Spaces s → single_field ok s ≡ holds missing
  unfolding single_says
  blank_missing r = rw ((code_blank_exactly s).1 r)

  zero_missing : CodeForm s (pos 0) → single_field ok s ≡ holds missing
  unfolding single_says
  zero_missing f = rw ((code_exactly s (pos 0)).1 f, same_self (pos 0))

  pub single_missing_exactly : (single_field ok s ≡ holds missing
      → Spaces s ⊎ CodeForm s (pos 0)) × (Spaces s ⊎ CodeForm s (pos 0) → single_field ok s ≡ holds missing)
  single_missing_exactly = (λ e. missing_by (code_of s) refl e, λ w. ⊎_elim blank_missing zero_missing w)

bits_all : {cs s : List ℕ} {ms : List ℤ} → BitForm cs s ms → all_bits s ≡ true
unfolding all_bits
bits_all stop = refl
bits_all (zero_bit r) = bits_all r
bits_all (one_bit r) = bits_all r

bits_set : {cs s : List ℕ} {ms : List ℤ} → BitForm cs s ms → set_bits cs s ≡ ms
unfolding set_bits
bits_set stop = refl
bits_set (zero_bit r) = bits_set r
bits_set (one_bit {c} r) = ap (λ (l : List ℤ). pos c ∷ l) (bits_set r)

-- a byte that is `0` or `1`
bit_case : (b : ℕ) (A : Type 0) → (eqb b 48 || eqb b 49) ≡ true → (b ≡ 48 → A) → (b ≡ 49 → A) → A
bit_case b A e f g = go (eqb b 48) refl (eqb b 49) refl e
  where
    go : (c : Bool) → eqb b 48 ≡ c → (d : Bool) → eqb b 49 ≡ d → c || d ≡ true → A
    go true p d q r = f (eqb-true b 48 p)
    go false p true q r = g (eqb-true b 49 q)
    go false p false q r = holds_not r refl

first_bit : (b : ℕ) (s : List ℕ) → all_bits (b ∷ s) ≡ true → ((eqb b 48 || eqb b 49) ≡ true) × (all_bits s ≡ true)
unfolding all_bits
first_bit b s e = go (eqb b 48 || eqb b 49) (all_bits s) e
  where
    go : (c d : Bool) → c && d ≡ true → (c ≡ true) × (d ≡ true)
    go true d q = (refl, q)
    go false d q = holds_not q refl

bits_of : (cs s : List ℕ) → length cs ≡ length s → all_bits s ≡ true → BitForm cs s (set_bits cs s)
unfolding set_bits
bits_of [] [] n e = stop
bits_of [] (b ∷ s) n e = absurd (omega arith)
bits_of (c ∷ cs) [] n e = absurd (omega arith)
bits_of (c ∷ cs) (b ∷ s) n e =
    let p = first_bit b s e in
    let r = bits_of cs s (omega arith) p.1 in
    bit_case b (BitForm (c ∷ cs) (b ∷ s) (cond (eqb b 49) (pos c ∷ set_bits cs s) (set_bits cs s))) p.0 (λ q. rw q (zero_bit r))
    (λ q. rw q (one_bit r))

module _ (cs s : List ℕ) (even : length cs ≡ length s) (ms : List ℤ) where
  set_by : (c d : Bool) → all_spaces s ≡ c → all_bits s ≡ d
      → cond c (holds missing) (cond d (holds (members (set_bits cs s))) illegal) ≡ holds (members ms)
      → BitForm cs s ms × (all_spaces s ≡ false)
  set_by true d a b e = let k : ◌≡◌ {A = ℕ} 0 1 = cc in absurd (omega arith)
  set_by false false a b e = let k : ◌≡◌ {A = ℕ} 0 1 = cc in absurd (omega arith)
  set_by false true a b e = let w : set_bits cs s ≡ ms = cc in (rw w at (bits_of cs s even b), a)

  -- A BITSTRING reads as this set exactly when each byte is `0` or `1`, `1` for its members in rising order; of no bytes at all it is
  -- missing, which no table has
  pub bits_exactly : (bits_field cs s ≡ holds (members ms) → BitForm cs s ms × (all_spaces s ≡ false)) × (BitForm cs s ms
      → all_spaces s ≡ false → bits_field cs s ≡ holds (members ms))
  unfolding bits_field
  bits_exactly = (λ e. set_by (all_spaces s) (all_bits s) refl refl e, λ f n. rw (n, bits_all f, bits_set f))
