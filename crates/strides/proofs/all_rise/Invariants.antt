-- `strides::all_rise` meets its contract. The invariant: the values rise as far as they were looked at.
use mathlib.Core.Path.{◌≡◌}
use mathlib.Core.Bool.{true}
use Prim.Native.Nat.{◌+◌, ◌*◌}
use Rattle.below.specs.rule.Below.{all_below}
use Rattle.strides.specs.rule.Stride.{stride_at}
use Rattle.strides.specs.Stride.{rises_at}
use Rattle.strides.proofs.all_rise.Given as goal

abbrev pub invariant-loop-j : goal.invariant-loop-j
invariant-loop-j l = all_below (2 * l.j + 1) (rises_at (stride_at l.t l.at l.step)) ≡ true
