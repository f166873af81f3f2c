-- What a variable that was read is known to satisfy: the clauses of a well-formed table that speak of one row, held by its columns and
-- its lines before they stand in a table. And variables one after the other, no ident twice, within the limits.
use Rattle.std.specs.Prelude.{◌≡◌, true, false, List, [], ◌∷◌, ◌++◌, ℕ, ◌+◌, ◌*◌, ◌≤◌, ◌<◌, length}
use Rattle.below.specs.rule.Below.{all_below}
use Rattle.strides.specs.rule.Stride.{all_differ}
use Rattle.layout.specs.rule.Layout.{most_rows, most_lines, line_size, line_at}
use Rattle.layout.specs.rule.Row.{kind_of, row_of}
use Rattle.sound.specs.rule.Sound.{counts_good, places_good, range_lacked, range_good, line_plain, values_fit, width_good}
use Rattle.values.specs.Line.{number_at, cells_of}
use Rattle.measures.specs.Width.{widest_of}
use Rattle.measures.specs.Survey.{Variable, lines_in, columns_in, holds_in, lines_all, ident_met}

-- a variable before whose lines `before` others stand
pub record GoodVariable (before : ℕ) (v : Variable) : Type 0 where
  pub counts : counts_good (columns_in before v) ≡ true
  pub places : places_good (columns_in before v) ≡ true
  pub lacked : range_lacked (columns_in before v) ≡ true
  pub range : range_good (row_of (columns_in before v)) ≡ true
  pub plain : all_below (length (lines_in v)) (λ k. line_plain (line_at (cells_of (lines_in v)) (line_size * k))) ≡ true
  pub fits : values_fit (kind_of (columns_in before v)) (number_at (lines_in v)) (length (lines_in v)) ≡ true
  pub differ : all_differ (number_at (lines_in v)) (length (lines_in v)) ≡ true
  pub width : width_good (kind_of (columns_in before v)) (columns_in before v).width
      (widest_of (row_of (columns_in before v)) (number_at (lines_in v))) ≡ true
  pub holds : holds_in before v ≡ true
  pub few : before + length (lines_in v) ≤ most_lines

-- variables as they are read, one behind the others
pub data Good : List Variable → Type 0 where
  none : Good []
  more : {l : List Variable} {v : Variable} → Good l → GoodVariable (lines_all l) v → ident_met l v.head.ident ≡ false
      → length l < most_rows → Good (l ++ v ∷ [])
