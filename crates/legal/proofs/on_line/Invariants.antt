-- `legal::on_line` meets its contract. The invariant: none of the lines passed has the number.
use mathlib.Core.Path.{◌≡◌}
use mathlib.Core.Bool.{false}
use Prim.Native.Nat.{◌+◌}
use Rattle.below.specs.rule.Below.{any_below}
use Rattle.cells.specs.rule.Cell.{cell, eq_z}
use Rattle.layout.specs.rule.Layout.{line_base}
use Rattle.legal.proofs.on_line.Given as goal

abbrev pub invariant-loop-k : goal.invariant-loop-k
invariant-loop-k l = any_below l.k (λ j. eq_z (cell l.t (line_base l.rows (l.before + j))) l.z) ≡ false
