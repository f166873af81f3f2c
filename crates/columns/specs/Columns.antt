-- What follows from rule/Columns.antt: the entries of rows one behind the other, and of a row by how many columns it has.
-- Assumes nothing.
use Rattle.std.specs.Prelude.{◌≡◌, ℤ}
use Rattle.std.proofs.Math.Path.{refl, ap}
use Rattle.std.proofs.Common.{◌∙◌, length-append}
use mathlib.Core.List.{List, [], ◌∷◌, ◌++◌}
use Prim.Native.Nat.{ℕ, suc, ◌+◌, ◌-◌, ◌^◌, ◌≤◌, ◌<◌}
use Rattle.std.proofs.Math.Numerals.{add-one}
use native.Mathlib.Omega.{arith}
use Rattle.std.proofs.Math.ListN.{length}
use Rattle.layout.specs.declared.Kind.{Kind}
use Rattle.layout.specs.declared.Kind.TheVariants.{Single, Multiple, Quantity, Character, Logical}
use Rattle.layout.specs.rule.Row.{row_at}
use Rattle.fields.specs.rule.Legal.{legal}
use Rattle.fields.specs.rule.Field.{Field}
use Rattle.fields.specs.rule.Row.{defined, reading_of}
use Rattle.matrix.specs.declared.Entry.{Entry}
use Rattle.columns.specs.rule.Columns.{Column, of_row, of_categories, columns_by, row_columns, columns_from}
use Rattle.widths.specs.rule.Width.{decimals_of}
use Rattle.columns.specs.rule.Columns.{number_entry, member_entry}
use Rattle.columns.specs.rule.Columns.{entry_of, entries_of}
use Rattle.columns.specs.Reach.{shape_of}
use Rattle.columns.specs.Marked.{member_entries}

-- ---- the columns of a row, by its shape
module _ (t : List ℤ) (v i : ℕ) where
  pub shape_one : shape_of (row_at t i).kind ≡ 1 → row_columns t v i ≡ of_row i ∷ []
  unfolding shape_of columns_by
  shape_one = go (row_at t i).kind
    where
      go : (k : Kind) → shape_of k ≡ 1 → columns_by k t v i ≡ of_row i ∷ []
      go Single e = refl
      go (Multiple s) e = absurd (omega arith)
      go (Quantity f) e = refl
      go Character e = absurd (omega arith)
      go Logical e = refl

  pub shape_many : 2 ≤ shape_of (row_at t i).kind → row_columns t v i ≡ of_categories i (defined (legal t v (row_at t i)) 1 9999)
  unfolding shape_of columns_by
  shape_many = go (row_at t i).kind
    where
      go : (k : Kind) → 2 ≤ shape_of k → columns_by k t v i ≡ of_categories i (defined (legal t v (row_at t i)) 1 9999)
      go Single e = absurd (omega arith)
      go (Multiple s) e = refl
      go (Quantity f) e = absurd (omega arith)
      go Character e = absurd (omega arith)
      go Logical e = absurd (omega arith)

  pub shape_count : shape_of (row_at t i).kind < 2 → shape_of (row_at t i).kind ≡ length (row_columns t v i)
  unfolding shape_of columns_by
  shape_count = go (row_at t i).kind
    where
      go : (k : Kind) → shape_of k < 2 → shape_of k ≡ length (columns_by k t v i)
      go Single e = refl
      go (Multiple s) e = absurd (omega arith)
      go (Quantity f) e = refl
      go Character e = refl
      go Logical e = refl

-- ---- entries
module _ (t : List ℤ) (v : ℕ) (bytes : List ℕ) where
  pub entries_append : (xs ys : List Column) → entries_of t v bytes (xs ++ ys) ≡ entries_of t v bytes xs ++ entries_of t v bytes ys
  unfolding entries_of
  entries_append [] ys = refl
  entries_append (x ∷ xs) ys = ap (λ (l : List Entry). entry_of t v bytes x ∷ l) (entries_append xs ys)

  pub length_entries : (cs : List Column) → length (entries_of t v bytes cs) ≡ length cs
  unfolding entries_of
  length_entries [] = refl
  length_entries (c ∷ cs) = ap suc (length_entries cs)

  pub entries_members : (i : ℕ) (cs : List ℕ) → entries_of t v bytes (of_categories i cs)
      ≡ member_entries (reading_of t v (row_at t i) bytes) cs
  unfolding entries_of of_categories member_entries entry_of
  entries_members i [] = refl
  entries_members i (c ∷ cs) = ap (λ (l : List Entry). member_entry c (reading_of t v (row_at t i) bytes) ∷ l) (entries_members i cs)

  pub entries_one : (i : ℕ) → entries_of t v bytes (of_row i ∷ [])
      ≡ number_entry (10 ^ decimals_of (row_at t i).kind) (reading_of t v (row_at t i) bytes) ∷ []
  unfolding entries_of entry_of
  entries_one i = refl

pub length_categories : (i : ℕ) (cs : List ℕ) → length (of_categories i cs) ≡ length cs
unfolding of_categories
length_categories i [] = refl
length_categories i (c ∷ cs) = ap suc (length_categories i cs)

pub length_members : (f : Field) (cs : List ℕ) → length (member_entries f cs) ≡ length cs
unfolding member_entries
length_members f [] = refl
length_members f (c ∷ cs) = ap suc (length_members f cs)

-- ---- row by row: v - i are left from row i on
module _ (t : List ℤ) (v i : ℕ) where
  pub columns_on : i < v → columns_from t v i (v - i) ≡ row_columns t v i ++ columns_from t v (i + 1) (v - (i + 1))
  unfolding columns_from
  columns_on h = let d : v - i ≡ suc (v - (i + 1)) = omega arith in rw (d, add-one i)

  pub columns_none : v ≤ i → columns_from t v i (v - i) ≡ []
  unfolding columns_from
  columns_none h = let d : v - i ≡ 0 = omega arith in rw d

-- the entries of the rows that are left
module _ (t : List ℤ) (v : ℕ) (bytes : List ℕ) (i : ℕ) where
  pub left_count : i < v → length (columns_from t v i (v - i)) ≡ length (row_columns t v i)
      + length (columns_from t v (i + 1) (v - (i + 1)))
  left_count h = ap (λ (l : List Column). length l) (columns_on t v i h)
      ∙ length-append (row_columns t v i) (columns_from t v (i + 1) (v - (i + 1)))
