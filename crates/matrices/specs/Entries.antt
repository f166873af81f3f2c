-- The entries of all records, record by record: the k-th of each record is a column's.
-- Assumes nothing.
use Rattle.std.specs.Prelude.{◌≡◌, ℤ}
use Rattle.std.proofs.Math.Path.{refl, ap}
use Rattle.std.proofs.Common.{◌∙◌}
use mathlib.Core.List.{List, [], ◌∷◌, ◌++◌}
use Prim.Native.Nat.{ℕ, zero, suc, ◌+◌, ◌*◌, ◌≤◌, ◌<◌}
use Rattle.std.proofs.Math.Nat.{suc-mul}
use native.Mathlib.Omega.{arith}
use Rattle.std.proofs.Math.ListN.{length, get_or, get_or-append}
use Rattle.std.proofs.Math.Seq.{get_or-append-add}
use Rattle.matrix.specs.declared.Entry.TheVariants.{Absent}
use Rattle.matrix.specs.Stride.{InStride}
use Rattle.columns.specs.rule.Columns.{Column, of_row, entry_of, entries_of}
use Rattle.columns.specs.Columns.{length_entries}
use Rattle.matrices.specs.rule.Matrix.{matrix_entries}

-- the k-th column, and the n-th record
abbrev pub column_at : List Column → ℕ → Column
column_at cs k = get_or cs k (of_row 0)

abbrev pub record_at : List (List ℕ) → ℕ → List ℕ
record_at rs n = get_or rs n []

module _ (t : List ℤ) (v : ℕ) (cs : List Column) where
  pub entry_at : (r : List ℕ) (ds : List Column) (k : ℕ) → k < length ds → get_or (entries_of t v r ds) k Absent
      ≡ entry_of t v r (column_at ds k)
  unfolding entries_of
  entry_at r [] k h = absurd (omega arith)
  entry_at r (d ∷ ds) zero h = refl
  entry_at r (d ∷ ds) (suc k) h = entry_at r ds k (omega arith)

  -- THE ENTRY of record n, column k
  pub all_at_lem : (rs : List (List ℕ)) (n k : ℕ) → n < length rs → k < length cs
      → get_or (matrix_entries t v cs rs) (n * length cs + k) Absent ≡ entry_of t v (record_at rs n) (column_at cs k)
  unfolding matrix_entries
  all_at_lem [] n k h l = absurd (omega arith)
  all_at_lem (r ∷ rs) zero k h l =
      let e : 0 * length cs + k ≡ k = omega arith in
      ap (λ (i : ℕ). get_or (entries_of t v r cs ++ matrix_entries t v cs rs) i Absent) e
      ∙ get_or-append (entries_of t v r cs) (matrix_entries t v cs rs) Absent k (rw (length_entries t v r cs) l)
      ∙ entry_at r cs k l
  all_at_lem (r ∷ rs) (suc n) k h l =
      let m = length_entries t v r cs in
      let e : suc n * length cs + k ≡ length (entries_of t v r cs) + (n * length cs + k) = omega (arith, m, suc-mul n (length cs)) in
      ap (λ (i : ℕ). get_or (entries_of t v r cs ++ matrix_entries t v cs rs) i Absent) e
      ∙ get_or-append-add (entries_of t v r cs) (matrix_entries t v cs rs) (n * length cs + k) Absent
      ∙ all_at_lem rs n k (omega arith) l

  -- the places of a column lie among the entries
  pub strides : (rs : List (List ℕ)) (k j : ℕ) (len : ℕ) → k < length cs → j + length rs * length cs ≤ len
      → InStride len (length cs) (j + k) (length rs)
  unfolding InStride
  strides [] k j len h l = tt
  strides (r ∷ rs) k j len h l =
      let m = suc-mul (length rs) (length cs) in
      let e : j + k + length cs ≡ j + length cs + k = omega arith in
      (omega arith, rw e (strides rs k (j + length cs) len h (omega arith)))
