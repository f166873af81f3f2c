-- A row's entries in a record, and what is made of its marks once for all records.
-- Assumes nothing.
use Rattle.std.specs.Prelude.{◌≡◌, ℕ, ◌^◌, ◌≤◌, ◌<◌, ℤ}
use Rattle.std.proofs.Math.Path.{refl}
use Rattle.std.proofs.Common.{sym, ◌∙◌, subst, arith}
use mathlib.Core.List.{List, [], ◌∷◌}
use Rattle.std.proofs.Math.ListN.{length}
use Rattle.layout.specs.declared.Kind.{Kind}
use Rattle.layout.specs.declared.Kind.TheVariants.{Single, Multiple, Quantity, Character, Logical}
use Rattle.layout.specs.declared.Row.{Row}
use Rattle.layout.specs.rule.Row.{row_at}
use Rattle.fields.specs.rule.Legal.{legal}
use Rattle.fields.specs.rule.Row.{defined, reading_of}
use Rattle.sets.specs.Marks.{Marks}
use Rattle.matrix.specs.declared.Entry.{Entry}
use Rattle.columns.specs.rule.Columns.{columns_by, row_columns, number_entry, entries_of}
use Rattle.widths.specs.rule.Width.{decimals_of}
use Rattle.columns.specs.Reach.{shape_of, Covered}
use Rattle.columns.specs.Marked.{member_entries}
use Rattle.columns.specs.Columns.{entries_one, entries_members, length_categories}
use Rattle.columns.specs.Ones.{Marked}

-- the entries of a row by its kind, and how many they are
unfoldable pub entries_by : Kind → List ℤ → ℕ → Row → List ℕ → List Entry
entries_by Single t v r bytes = number_entry (10 ^ decimals_of r.kind) (reading_of t v r bytes) ∷ []
entries_by (Multiple s) t v r bytes = member_entries (reading_of t v r bytes) (defined (legal t v r) 1 9999)
entries_by (Quantity f) t v r bytes = number_entry (10 ^ decimals_of r.kind) (reading_of t v r bytes) ∷ []
entries_by Character t v r bytes = []
entries_by Logical t v r bytes = number_entry (10 ^ decimals_of r.kind) (reading_of t v r bytes) ∷ []

unfoldable pub count_by : Kind → List ℤ → ℕ → Row → ℕ
count_by Single t v r = 1
count_by (Multiple s) t v r = length (defined (legal t v r) 1 9999)
count_by (Quantity f) t v r = 1
count_by Character t v r = 0
count_by Logical t v r = 1

-- the marks of a multiple's categories, all of them set from 1 to before a gap, and how many they are
pub record MarkedSet (t : List ℤ) (v : ℕ) (r : Row) (allowed : List ℕ) (gap count : ℕ) : Type 0 where
  pub covered : Covered t v r (length allowed)
  pub marks : Marks (λ x. legal t v r x) allowed
  pub run : Marked allowed 1 gap
  pub many : count ≡ length (defined (legal t v r) 1 9999)

-- of any row: how many columns it has, and of a multiple its marks
pub record MarkedRow (t : List ℤ) (v : ℕ) (r : Row) (allowed : List ℕ) (gap count : ℕ) : Type 0 where
  pub many : count ≡ count_by r.kind t v r
  pub set : 2 ≤ shape_of r.kind → MarkedSet t v r allowed gap count

-- ---- laws
pub covered_as : {t : List ℤ} {v : ℕ} {r : Row} {n m : ℕ} → m ≡ n → Covered t v r n → Covered t v r m
covered_as {t} {v} {r} e c = subst (λ (k : ℕ). Covered t v r k) (sym e) c

module _ (t : List ℤ) (v : ℕ) (r : Row) where
  pub by_none : (bytes : List ℕ) → shape_of r.kind ≡ 0 → entries_by r.kind t v r bytes ≡ []
  unfolding shape_of entries_by
  by_none bytes = go r.kind
    where
      go : (k : Kind) → shape_of k ≡ 0 → entries_by k t v r bytes ≡ []
      go Single e = absurd (omega arith)
      go (Multiple s) e = absurd (omega arith)
      go (Quantity f) e = absurd (omega arith)
      go Character e = refl
      go Logical e = absurd (omega arith)

  pub by_one : (bytes : List ℕ) → shape_of r.kind ≡ 1
      → entries_by r.kind t v r bytes ≡ number_entry (10 ^ decimals_of r.kind) (reading_of t v r bytes) ∷ []
  unfolding shape_of entries_by
  by_one bytes = go r.kind
    where
      go : (k : Kind) → shape_of k ≡ 1 → entries_by k t v r bytes ≡ number_entry (10 ^ decimals_of r.kind) (reading_of t v r bytes) ∷ []
      go Single e = refl
      go (Multiple s) e = absurd (omega arith)
      go (Quantity f) e = refl
      go Character e = absurd (omega arith)
      go Logical e = refl

  pub by_many : (bytes : List ℕ) → 2 ≤ shape_of r.kind
      → entries_by r.kind t v r bytes ≡ member_entries (reading_of t v r bytes) (defined (legal t v r) 1 9999)
  unfolding shape_of entries_by
  by_many bytes = go r.kind
    where
      go : (k : Kind) → 2 ≤ shape_of k → entries_by k t v r bytes ≡ member_entries (reading_of t v r bytes) (defined (legal t v r) 1 9999)
      go Single e = absurd (omega arith)
      go (Multiple s) e = refl
      go (Quantity f) e = absurd (omega arith)
      go Character e = absurd (omega arith)
      go Logical e = absurd (omega arith)

  pub count_few : shape_of r.kind < 2 → shape_of r.kind ≡ count_by r.kind t v r
  unfolding shape_of count_by
  count_few = go r.kind
    where
      go : (k : Kind) → shape_of k < 2 → shape_of k ≡ count_by k t v r
      go Single e = refl
      go (Multiple s) e = absurd (omega arith)
      go (Quantity f) e = refl
      go Character e = refl
      go Logical e = refl

  pub count_many : 2 ≤ shape_of r.kind → length (defined (legal t v r) 1 9999) ≡ count_by r.kind t v r
  unfolding shape_of count_by
  count_many = go r.kind
    where
      go : (k : Kind) → 2 ≤ shape_of k → length (defined (legal t v r) 1 9999) ≡ count_by k t v r
      go Single e = absurd (omega arith)
      go (Multiple s) e = refl
      go (Quantity f) e = absurd (omega arith)
      go Character e = absurd (omega arith)
      go Logical e = absurd (omega arith)

  pub few_row : (allowed : List ℕ) (gap : ℕ) {n : ℕ} → n ≡ shape_of r.kind → n < 2 → MarkedRow t v r allowed gap n
  few_row allowed gap e h = record { many = e ∙ count_few (omega arith); set = λ s. absurd (omega arith) }

  pub many_row : 2 ≤ shape_of r.kind → {allowed : List ℕ} {gap n : ℕ} → MarkedSet t v r allowed gap n → MarkedRow t v r allowed gap n
  many_row s m = record { many = m.many ∙ count_many s; set = λ x. m }

-- they are those of its columns
module _ (t : List ℤ) (v i : ℕ) where
  pub row_entries : (bytes : List ℕ) → entries_of t v bytes (row_columns t v i) ≡ entries_by (row_at t i).kind t v (row_at t i) bytes
  unfolding columns_by entries_by entries_of
  row_entries bytes = go (row_at t i).kind
    where
      go : (k : Kind) → entries_of t v bytes (columns_by k t v i) ≡ entries_by k t v (row_at t i) bytes
      go Single = entries_one t v bytes i
      go (Multiple s) = entries_members t v bytes i (defined (legal t v (row_at t i)) 1 9999)
      go (Quantity f) = entries_one t v bytes i
      go Character = refl
      go Logical = entries_one t v bytes i

  pub row_count : length (row_columns t v i) ≡ count_by (row_at t i).kind t v (row_at t i)
  unfolding columns_by count_by
  row_count = go (row_at t i).kind
    where
      go : (k : Kind) → length (columns_by k t v i) ≡ count_by k t v (row_at t i)
      go Single = refl
      go (Multiple s) = length_categories i (defined (legal t v (row_at t i)) 1 9999)
      go (Quantity f) = refl
      go Character = refl
      go Logical = refl
