-- Which numbers a row allows: those of its range and those of its lines.
use Rattle.std.specs.Prelude.{Bool, ◌&&◌, ◌||◌, List, ℕ, ◌+◌, ℤ}
use Rattle.std.specs.Int.Signed.{le_z}
use Rattle.below.specs.rule.Below.{any_below}
use Rattle.cells.specs.rule.Cell.{cell, eq_z}
use Rattle.layout.specs.rule.Layout.{line_base}
use Rattle.layout.specs.declared.Row.{Row}

-- the value on line k of a row, in a table of v rows
abbrev pub line_value : List ℤ → ℕ → Row → ℕ → ℤ
line_value t v r k = cell t (line_base v (r.before + k))

unfoldable pub in_range : Row → ℤ → Bool
in_range r z = r.range && (le_z r.from z && le_z z r.to)

unfoldable pub on_line : List ℤ → ℕ → Row → ℤ → Bool
on_line t v r z = any_below r.lines (λ k. eq_z (line_value t v r k) z)

-- "a number must lie in the range or on a line"
unfoldable pub legal : List ℤ → ℕ → Row → ℤ → Bool
legal t v r z = in_range r z || on_line t v r z
