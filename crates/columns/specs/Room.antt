-- What each writer of entries is given and what it leaves.
-- Assumes nothing.
use Rattle.std.specs.Prelude.{◌≡◌, refl, Bool, List, [], ◌∷◌, ◌++◌, ℕ, ◌+◌, ◌*◌, ◌≤◌, ℤ, length}
use Rattle.std.proofs.Common.{sym, ap, ◌∙◌, arith}
use Rattle.ascii.specs.rule.Tens.{Tens}
use Rattle.layout.specs.declared.Header.{Header}
use Rattle.files.specs.rule.Tested.{Tested}
use Rattle.matrix.specs.declared.Entry.{Entry}
use Rattle.matrix.specs.Put.{put_entries}
use Rattle.matrix.specs.Entry.{entries_none, entries_then}
use Rattle.matrix.specs.Noughts.{noughts, length_noughts}

-- room for n presence bytes from one place on and for n values from another, behind them
pub record Room (flags values size n : ℕ) : Type 0 where
  pub behind : flags + n ≤ values
  pub inside : values + 8 * n ≤ size

-- entries put there, and how many they are
pub record PutAs (es : List Entry) (flags values : ℕ) (out out' : List ℕ) (r : ℕ) : Type 0 where
  pub count : r ≡ length es
  pub leaves : out' ≡ put_entries out flags values es

-- powers of ten, a table that was tested, a list with room for every set, marks for every category twice
pub record Ready (powers : List ℕ) (t : List ℤ) (h : Header) (list allowed present : ℕ) : Type 0 where
  pub tens : Tens powers
  pub tested : Tested t h
  pub room : list ≡ 9999
  pub marks : allowed ≡ 10000
  pub marks_too : present ≡ 10000

-- ---- laws
pub put_as : {es es' : List Entry} {flags values : ℕ} {out out' : List ℕ} {r : ℕ} → es ≡ es' → PutAs es flags values out out' r
    → PutAs es' flags values out out' r
put_as {flags} {values} {out} e p = record {
  count = p.count ∙ ap length e;
  leaves = p.leaves
      ∙ ap (λ (l : List Entry). put_entries out flags values l) e;
}

pub put_none : {es : List Entry} {flags values : ℕ} (out : List ℕ) → es ≡ [] → PutAs es flags values out out 0
put_none {flags} {values} out e = put_as (sym e) (record { count = refl; leaves = sym (entries_none out flags values) })

pub room_as : {flags values size n m : ℕ} → n ≡ m → Room flags values size n → Room flags values size m
room_as e r = let b = r.behind in let i = r.inside in record { behind = omega arith; inside = omega arith }

pub room_on : {flags values size size' n : ℕ} → size' ≡ size → Room flags values size n → Room flags values size' n
room_on e r = let i = r.inside in record { behind = r.behind; inside = omega arith }

pub room_less : {flags values size n m : ℕ} → m ≤ n → Room flags values size n → Room flags values size m
room_less h r = let b = r.behind in let i = r.inside in record { behind = omega arith; inside = omega arith }

pub room_behind : {flags values size n : ℕ} (k m : ℕ) → n ≡ k + m → Room flags values size n → Room (flags + k) (values + 8 * k) size m
room_behind k m e r = let b = r.behind in let i = r.inside in record { behind = omega arith; inside = omega arith }

pub marks_few : {n m : ℕ} → m ≡ n → 1 ≤ n → n ≤ 10000 → (1 ≤ m) × (m ≤ 10000)
marks_few e a b = (omega arith, omega arith)

-- an entry put, and those behind it
pub entry_then : (r : List ℕ) (f v : ℕ) (e : Entry) (ys : List Entry) → f + (1 + length ys) ≤ v
    → put_entries (put_entries r f v (e ∷ [])) (f + 1) (v + 8) ys ≡ put_entries r f v (e ∷ ys)
entry_then r f v e ys h = entries_then r f v (e ∷ []) ys h

-- sixteen of value zero put, and those behind them
pub noughts_then : (r : List ℕ) (f v : ℕ) (there : Bool) (ys : List Entry) → f + (16 + length ys) ≤ v
    → put_entries (put_entries r f v (noughts there 16)) (f + 16) (v + 128) ys ≡ put_entries r f v (noughts there 16 ++ ys)
noughts_then r f v there ys h =
    let xs = noughts there 16 in
    let n : length xs ≡ 16 = length_noughts there 16 in
    ap (λ (m : ℕ). put_entries (put_entries r f v xs) (f + m) (v + 8 * m) ys) (sym n) ∙ entries_then r f v xs ys (omega arith)
