-- One entry more: what it adds to the lines, the header and the idents; and one stretch more in a room.
use mathlib.Core.Path.{◌≡◌, refl, ◌∙◌, sym, ap}
use mathlib.Core.Bool.{Bool, true, false, ◌||◌}
use mathlib.Core.List.{List, [], ◌∷◌, ◌++◌, append_assoc, append-nil}
use Prim.Native.Nat.{ℕ, zero, suc, ◌+◌, ◌*◌, ◌≤◌, ◌<◌, max}
use native.Mathlib.Omega.{arith}
use lib.IntN.{ℤ}
use lib.ListN.{length, take, drop, length-append}
use lib.Seq.{take_at, length-take-le}
use Rattle.cells.specs.rule.Cell.{pasted}
use Rattle.layout.specs.rule.Layout.{line_size}
use Rattle.survey.specs.rule.Survey.{Variable, Line}
use Rattle.survey.specs.rule.Width.{some_of, finish_in}
use Rattle.survey.specs.rule.Table.{lines_of, lines_all, highest_in, line_cells, cells_of, all_lines}
use Rattle.laying.proofs.Small.{ident_low, finish_low}
use Rattle.measures.specs.Survey.{columns_in, holds_in}
use Rattle.measures.specs.Good.{GoodVariable}
use Rattle.survey.specs.rule.Table.{variable_columns}
use Rattle.xml_reading.specs.rule.Role.{XmlEntry, variables_of}
use Rattle.xml_bridge.specs.Book.{book_of, columns_same}
use Rattle.xml_bridge.specs.Table.{FineEntries, nothing, more}

pub variables_with : (l : List XmlEntry) (v : XmlEntry) → variables_of (l ++ v ∷ []) ≡ variables_of l ++ v.variable ∷ []
variables_with [] v = refl
variables_with (w ∷ l) v = rw (variables_with l v)

pub lines_with : (l : List Variable) (v : Variable) → lines_all (l ++ v ∷ []) ≡ lines_all l + length (lines_of v)
unfolding lines_all
lines_with [] v = omega arith
lines_with (w ∷ l) v = omega (arith, lines_with l v)

pub highest_with : (l : List Variable) (v : Variable) → highest_in (l ++ v ∷ []) ≡ max (highest_in l) (finish_in v)
unfolding highest_in
highest_with [] v = omega arith
highest_with (w ∷ l) v = omega (arith, highest_with l v)

pub cells_with : (l : List Variable) (v : Variable) → all_lines (l ++ v ∷ []) ≡ all_lines l ++ cells_of (lines_of v)
unfolding all_lines
cells_with [] v = append-nil (cells_of (lines_of v))
cells_with (w ∷ l) v = rw (cells_with l v) (sym (append_assoc (cells_of (lines_of w)) (all_lines l) (cells_of (lines_of v))))

pub cells_long : (l : List Line) → length (cells_of l) ≡ line_size * length l
unfolding cells_of line_cells
cells_long [] = refl
cells_long (x ∷ l) = let h = cells_long l in omega arith

pub some_with : (f : Variable → Bool) (l : List Variable) (v : Variable) → some_of f (l ++ v ∷ []) ≡ (some_of f l || f v)
unfolding some_of
some_with f [] v = by (f v) where
  by : (b : Bool) → (b || false) ≡ b
  by true = refl
  by false = refl
some_with f (w ∷ l) v = rw (some_with f l v) (by (f w)) where
  by : (b : Bool) → (b || (some_of f l || f v)) ≡ ((b || some_of f l) || f v)
  by true = refl
  by false = refl

-- a stretch s behind the first k numbers of a room
pub take_pasted : (t s p : List ℤ) (k : ℕ) → k ≤ length t → take k t ≡ p → take (k + length s) (pasted t k s) ≡ p ++ s
unfolding pasted
take_pasted t s p k h e =
    take_at (take k t ++ s) (drop (k + length s) t) (k + length s) (length-append (take k t) s ∙ rw (length-take-le k t h))
    ∙ ap (λ (x : List ℤ). x ++ s) e

-- ---- numbers of a variable that was read
module _ (before : ℕ) (v : Variable) (g : GoodVariable before (book_of v)) where
  pub ident_few : v.ident.value ≤ 9999
  unfolding holds_in variable_columns
  ident_few = rw (columns_same before v) at (ident_low (columns_in before (book_of v)) g.counts g.places g.holds)

  finish_few : finish_in v ≤ 16384
  unfolding holds_in variable_columns
  finish_few = rw (columns_same before v) at (finish_low (columns_in before (book_of v)) g.counts g.places g.holds)

pub highest_low : {l : List XmlEntry} → FineEntries l → highest_in (variables_of l) ≤ 16384
unfolding highest_in
highest_low nothing = omega arith
highest_low (more {l} {v} g f) =
    rw (variables_with l v, highest_with (variables_of l) v.variable)
    (omega (arith, highest_low g, finish_few (lines_all (variables_of l)) v.variable f.good))
