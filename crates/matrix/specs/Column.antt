-- A column as it stands in bytes: a presence byte and a value's bytes for each record, every so many cells.
-- Assumes nothing.
use Rattle.std.specs.Prelude.{◌≡◌, refl, cond, not, List, [], ◌∷◌, ℕ, zero, suc, ◌+◌, ◌-◌, ◌*◌, ◌≤◌, ◌<◌, T, eqb, length}
use Rattle.std.specs.Prelude.{get_or, Float}
use Rattle.std.proofs.Common.{arith, eq-eqb, ne_eqb, mul-suc}
use Rattle.std.specs.Float.{binary64}
use Rattle.std.specs.Float.Ieee.{nan_bits, of_bits}
use Rattle.little.specs.Bytes.{number_at}

-- the bytes lie in s, and no value's bits are a NaN's
unfoldable pub ColumnThere : List ℕ → ℕ → ℕ → ℕ → ℕ → Type 0
ColumnThere s step flag value zero = Unit {0}
ColumnThere s step flag value (suc n) =
    (flag < length s) × (value + 8 ≤ length s) × T (not (nan_bits binary64 (number_at 8 value s)))
    × ColumnThere s step (flag + step) (value + 8 * step) n

-- the values whose presence byte is 1
unfoldable pub column_in : List ℕ → ℕ → ℕ → ℕ → ℕ → List Float
column_in s step flag value zero = []
column_in s step flag value (suc n) =
    cond (eqb (get_or s flag 0) 1) (of_bits binary64 (number_at 8 value s) ∷ column_in s step (flag + step) (value + 8 * step) n)
    (column_in s step (flag + step) (value + 8 * step) n)

-- ---- laws
pub there_here : (s : List ℕ) (step flag value n : ℕ) → 0 < n → ColumnThere s step flag value n
    → (flag < length s) × (value + 8 ≤ length s) × T (not (nan_bits binary64 (number_at 8 value s)))
unfolding ColumnThere
there_here s step flag value zero h c = absurd (omega arith)
there_here s step flag value (suc n) h c = (c.0, c.1, c.2)

pub there_on : (s : List ℕ) (step flag value n : ℕ) → 0 < n → ColumnThere s step flag value n
    → ColumnThere s step (flag + step) (value + 8 * step) (n - 1)
unfolding ColumnThere
there_on s step flag value zero h c = absurd (omega arith)
there_on s step flag value (suc n) h c = let z : suc n - 1 ≡ n = omega arith in rw z c.3

pub column_on : (s : List ℕ) (step flag value n : ℕ) → 0 < n → get_or s flag 0 ≡ 1
    → column_in s step flag value n ≡ of_bits binary64 (number_at 8 value s) ∷ column_in s step (flag + step) (value + 8 * step) (n - 1)
unfolding column_in
column_on s step flag value zero h e = absurd (omega arith)
column_on s step flag value (suc n) h e = let z : suc n - 1 ≡ n = omega arith in rw (z, eq-eqb (get_or s flag 0) 1 e)

pub column_off : (s : List ℕ) (step flag value n : ℕ) → 0 < n → (get_or s flag 0 ≡ 1 → ⊥)
    → column_in s step flag value n ≡ column_in s step (flag + step) (value + 8 * step) (n - 1)
unfolding column_in
column_off s step flag value zero h e = absurd (omega arith)
column_off s step flag value (suc n) h e = let z : suc n - 1 ≡ n = omega arith in rw (z, ne_eqb (get_or s flag 0) 1 e)

pub column_none : (s : List ℕ) (step flag value n : ℕ) → n ≤ 0 → column_in s step flag value n ≡ []
unfolding column_in
column_none s step flag value zero h = refl
column_none s step flag value (suc n) h = absurd (omega arith)

-- ---- from record k on
pub place_next : (p step k : ℕ) → p + step * (k + 1) ≡ p + step * k + step
place_next p step k = let e = mul-suc step k in omega arith

pub value_next : (p step k : ℕ) → p + 8 * (step * (k + 1)) ≡ p + 8 * (step * k) + 8 * step
value_next p step k = let e = mul-suc step k in omega arith

-- what is left of the column whose first places are these
abbrev pub there_from : List ℕ → ℕ → ℕ → ℕ → ℕ → ℕ → Type 0
there_from s step flags values n k = ColumnThere s step (flags + step * k) (values + 8 * (step * k)) (n - k)

abbrev pub column_from : List ℕ → ℕ → ℕ → ℕ → ℕ → ℕ → List Float
column_from s step flags values n k = column_in s step (flags + step * k) (values + 8 * (step * k)) (n - k)

module _ (s : List ℕ) (step flags values n k : ℕ) (h : k < n) where
  left_next : n - (k + 1) ≡ n - k - 1
  left_next = omega arith

  pub there_at : there_from s step flags values n k
      → (flags + step * k < length s) × (values + 8 * (step * k) + 8 ≤ length s)
      × T (not (nan_bits binary64 (number_at 8 (values + 8 * (step * k)) s)))
  there_at c = there_here s step (flags + step * k) (values + 8 * (step * k)) (n - k) (omega arith) c

  pub there_next : there_from s step flags values n k → there_from s step flags values n (k + 1)
  there_next c =
      rw (place_next flags step k, value_next values step k, left_next)
      (there_on s step (flags + step * k) (values + 8 * (step * k)) (n - k) (omega arith) c)

  pub column_with : get_or s (flags + step * k) 0 ≡ 1
      → column_from s step flags values n k
      ≡ of_bits binary64 (number_at 8 (values + 8 * (step * k)) s) ∷ column_from s step flags values n (k + 1)
  column_with e =
      rw (place_next flags step k, value_next values step k, left_next)
      (column_on s step (flags + step * k) (values + 8 * (step * k)) (n - k) (omega arith) e)

  pub column_without : (get_or s (flags + step * k) 0 ≡ 1 → ⊥)
      → column_from s step flags values n k ≡ column_from s step flags values n (k + 1)
  column_without e =
      rw (place_next flags step k, value_next values step k, left_next)
      (column_off s step (flags + step * k) (values + 8 * (step * k)) (n - k) (omega arith) e)

pub column_past : (s : List ℕ) (step flags values n k : ℕ) → n ≤ k → column_from s step flags values n k ≡ []
column_past s step flags values n k h = column_none s step (flags + step * k) (values + 8 * (step * k)) (n - k) (omega arith)
