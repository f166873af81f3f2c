-- `sets::alike::lines_count` meets its contract. The invariant: the lines passed are the categories from 1 on.
use mathlib.Core.Path.{◌≡◌}
use mathlib.Core.Bool.{true}
use Prim.Native.Nat.{ℕ, ◌+◌, ◌<◌}
use lib.IntN.{pos}
use Rattle.cells.specs.rule.Cell.{cell, eq_z}
use Rattle.layout.specs.rule.Layout.{line_base}
use Rattle.sets.proofs.alike.lines_count.Given as goal

abbrev pub invariant-loop-k : goal.invariant-loop-k
invariant-loop-k l = (j : ℕ) → j < l.k → eq_z (cell l.t (line_base l.rows (l.before + j))) (pos (j + 1)) ≡ true
