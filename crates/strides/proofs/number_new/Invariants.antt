-- `strides::number_new` meets its contract. The invariant: the value differs from those looked at so far.
use mathlib.Core.Path.{◌≡◌}
use mathlib.Core.Bool.{true}
use Rattle.below.specs.rule.Below.{all_below}
use Rattle.strides.specs.rule.Stride.{stride_at, unlike}
use Rattle.strides.proofs.number_new.Given as goal

abbrev pub invariant-loop-j : goal.invariant-loop-j
invariant-loop-j l = all_below l.j (unlike (stride_at l.t l.at l.step) l.k) ≡ true
