-- `sets::alike::lines_are` meets its contract. The invariant: the bytes of the lines passed are.
use mathlib.Core.Path.{◌≡◌}
use mathlib.Core.Bool.{true}
use Prim.Native.Nat.{◌+◌}
use Rattle.below.specs.rule.Below.{all_below}
use Rattle.cells.specs.rule.Cell.{cell, eq_z}
use Rattle.layout.specs.rule.Layout.{line_base}
use Rattle.sets.specs.Alike.{all_at}
use Rattle.sets.proofs.alike.lines_are.Given as goal

abbrev pub invariant-loop-k : goal.invariant-loop-k
invariant-loop-k l = all_below l.k
    (λ j. all_at l.x l.y l.bytes l.at l.w (λ u. eq_z (cell l.t (line_base l.rows (l.before + j))) u)) ≡ true
