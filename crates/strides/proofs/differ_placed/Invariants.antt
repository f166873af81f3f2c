-- `strides::differ_placed` meets its contract. The invariant: the numbers differ as far as they were looked at, and left their marks.
use mathlib.Core.Path.{◌≡◌}
use mathlib.Core.Bool.{true}
use Rattle.below.specs.rule.Below.{all_below}
use Rattle.cells.specs.rule.Cell.{count_of}
use Rattle.strides.specs.rule.Stride.{stride_at, number_new}
use Rattle.strides.specs.Stride.{Left}
use Rattle.strides.proofs.differ_placed.Given as goal

abbrev pub invariant-loop-k : goal.invariant-loop-k
invariant-loop-k l = Left count_of (stride_at l.t l.at l.step) l.k l.marks
    × (all_below l.k (number_new (stride_at l.t l.at l.step)) ≡ true)
