-- Every entry of a tested table's columns is one that is converted exactly.
-- Assumes nothing.
use Rattle.std.specs.Prelude.{Bool, true, false, cond, List, [], ◌∷◌, ◌++◌, ℤ, pos, length}
use Rattle.std.proofs.Common.{sym, arith}
use Rattle.std.proofs.Math.Path.{subst}
use Prim.Native.Nat.{ℕ, zero, suc, ◌+◌, ◌^◌, ◌≤◌, ◌<◌}
use Rattle.layout.specs.declared.Header.{Header}
use Rattle.layout.specs.declared.Kind.{Kind}
use Rattle.layout.specs.declared.Kind.TheVariants.{Single, Multiple, Quantity, Character, Logical}
use Rattle.layout.specs.rule.Row.{row_at}
use Rattle.fields.specs.rule.Field.{missing, number, members, text, truth, Field, holds, illegal, is_member}
use Rattle.fields.specs.rule.Legal.{legal}
use Rattle.fields.specs.rule.Row.{defined, reading_of}
use Rattle.files.specs.rule.Tested.{Tested}
use Rattle.matrix.specs.declared.Entry.{Entry}
use Rattle.matrix.specs.declared.Entry.TheVariants.{Scaled}
use Rattle.matrix.specs.Entry.{EntryGood}
use Rattle.matrix.specs.Stride.{AllGood}
use Rattle.columns.specs.rule.Columns.{of_categories, columns_by, row_columns, columns_from, number_entry}
use Rattle.widths.specs.rule.Width.{decimals_of}
use Rattle.columns.specs.rule.Columns.{member_entry}
use Rattle.columns.specs.rule.Columns.{entry_of, entries_of}
use Rattle.columns.specs.Reach.{row_readable, entry_good, power_good}
use Rattle.columns.specs.Columns.{entries_append}
use Rattle.matrices.specs.rule.Matrix.{matrix_entries}
use Rattle.matrices.specs.Records.{AllLong}

good_append : (xs ys : List Entry) → AllGood xs → AllGood ys → AllGood (xs ++ ys)
unfolding AllGood
good_append [] ys a b = b
good_append (x ∷ xs) ys a b = (a.0, good_append xs ys a.1 b)

member_good : (c : ℕ) (f : Field) → EntryGood (member_entry c f)
unfolding EntryGood member_entry
member_good c (holds missing) = tt
member_good c (holds (number z)) = tt
member_good c (holds (members ms)) = go (is_member ms (pos c))
  where
    go : (b : Bool) → EntryGood (Scaled (cond b (pos 1) (pos 0)) 1)
    go true = (omega arith, (omega arith, omega arith))
    go false = (omega arith, (omega arith, omega arith))
member_good c (holds (text s)) = tt
member_good c (holds (truth b)) = tt
member_good c illegal = tt

members_good : (t : List ℤ) (v : ℕ) (r : List ℕ) (i : ℕ) (cs : List ℕ) → AllGood (entries_of t v r (of_categories i cs))
unfolding AllGood entries_of of_categories entry_of
members_good t v r i [] = tt
members_good t v r i (c ∷ cs) = (member_good c (reading_of t v (row_at t i) r), members_good t v r i cs)

module _ {t : List ℤ} {h : Header} (g : Tested t h) (r : List ℕ) (long : h.length ≤ length r) where
  pub row_good_lem : (i : ℕ) → i < h.rows → AllGood (entries_of t h.rows r (row_columns t h.rows i))
  unfolding AllGood entries_of columns_by entry_of
  row_good_lem i l = let q = row_readable g l (length r) long in
      go (row_at t i).kind (entry_good q r (10 ^ decimals_of (row_at t i).kind) (power_good q).1)
    where
      go : (k : Kind) → EntryGood (number_entry (10 ^ decimals_of (row_at t i).kind) (reading_of t h.rows (row_at t i) r))
          → AllGood (entries_of t h.rows r (columns_by k t h.rows i))
      go Single e = (e, tt)
      go (Multiple s) e = members_good t h.rows r i (defined (legal t h.rows (row_at t i)) 1 9999)
      go (Quantity f) e = (e, tt)
      go Character e = tt
      go Logical e = (e, tt)

  pub record_good : (n i : ℕ) → i + n ≤ h.rows → AllGood (entries_of t h.rows r (columns_from t h.rows i n))
  unfolding AllGood entries_of columns_from
  record_good zero i l = tt
  record_good (suc n) i l =
      subst AllGood (sym (entries_append t h.rows r (row_columns t h.rows i) (columns_from t h.rows (suc i) n)))
      (good_append (entries_of t h.rows r (row_columns t h.rows i)) (entries_of t h.rows r (columns_from t h.rows (suc i) n))
      (row_good_lem i (omega arith)) (record_good n (suc i) (omega arith)))

pub all_good : {t : List ℤ} {h : Header} → Tested t h → (rs : List (List ℕ)) → AllLong h.length rs
    → AllGood (matrix_entries t h.rows (columns_from t h.rows 0 h.rows) rs)
unfolding AllGood AllLong matrix_entries
all_good g [] l = tt
all_good {t} {h} g (r ∷ rs) l =
    let cs = columns_from t h.rows 0 h.rows in
    good_append (entries_of t h.rows r cs) (matrix_entries t h.rows cs rs) (record_good g r l.0 h.rows 0 (omega arith))
    (all_good g rs l.1)
