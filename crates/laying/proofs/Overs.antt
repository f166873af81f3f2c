-- Header, rows and lines pasted one behind the other are the table that the rooms hold, pasted at once.
use mathlib.Core.Path.{◌≡◌, sym, ap, ◌∙◌}
use mathlib.Core.List.{List, ◌++◌, append_assoc}
use Prim.Native.Nat.{ℕ, ◌+◌, ◌*◌, ◌≤◌}
use native.Mathlib.Omega.{arith}
use lib.IntN.{ℤ}
use lib.ListN.{length, take, length-append}
use lib.Seq.{length-take-le}
use Rattle.cells.specs.rule.Cell.{pasted}
use Rattle.cells.specs.Cell.{paste_more}
use Rattle.layout.specs.rule.Layout.{header_size, row_size, line_size, lines_base, line_base}
use Rattle.rows.specs.rule.Cells.{header_cells}
use Rattle.laying.specs.declared.Tally.{Tally}
use Rattle.laying.specs.Code.{header_by, cells_in}
use Rattle.laying.proofs.Matched.{six}

pub at_start : (l p s : List ℤ) (k : ℕ) → k ≡ length p → length p ≤ length l → pasted (pasted l 0 p) k s ≡ pasted l 0 (p ++ s)
at_start l p s k e h = let q : k ≡ 0 + length p = omega arith in rw q (paste_more l p s 0 (omega arith))

module _ (m : ℕ) (y : Tally) (rows lines : List ℤ) (r : row_size * y.rows ≤ length rows) where
  abbrev head : List ℤ
  head = header_cells (header_by m y)

  abbrev middle : List ℤ
  middle = take (row_size * y.rows) rows

  abbrev back : List ℤ
  back = take (line_size * y.lines) lines

  front : length (head ++ middle) ≡ lines_base y.rows
  front = length-append head middle ∙ rw (six (header_by m y), length-take-le (row_size * y.rows) rows r)

  pub laid_over : (t : List ℤ) → line_base y.rows y.lines ≤ length t
      → pasted (pasted (pasted t 0 head) header_size middle) (lines_base y.rows) back ≡ pasted t 0 (cells_in m y rows lines)
  unfolding cells_in
  laid_over t h =
      ap (λ (s : List ℤ). pasted s (lines_base y.rows) back)
      (at_start t head middle header_size (sym (six (header_by m y))) (omega (arith, six (header_by m y))))
      ∙ at_start t (head ++ middle) back (lines_base y.rows) (sym front) (omega (arith, front))
      ∙ ap (pasted t 0) (append_assoc head middle back)
