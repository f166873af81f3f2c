-- `strides::differ_pairwise` meets its contract. The invariant: the numbers differ as far as they were looked at.
use mathlib.Core.Path.{◌≡◌}
use mathlib.Core.Bool.{true}
use Rattle.below.specs.rule.Below.{all_below}
use Rattle.strides.specs.rule.Stride.{stride_at, number_new}
use Rattle.strides.proofs.differ_pairwise.Given as goal

abbrev pub invariant-loop-k : goal.invariant-loop-k
invariant-loop-k l = all_below l.k (number_new (stride_at l.t l.at l.step)) ≡ true
