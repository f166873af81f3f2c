use mathlib.Core.Path.{◌≡◌}
use mathlib.Core.Bool.{true}
use Rattle.below.specs.rule.Below.{all_below}
use Rattle.sound.specs.rule.Sound.{plain_at}
use Rattle.sound.proofs.lines_plain.Given as goal

abbrev pub invariant-loop-k : goal.invariant-loop-k
invariant-loop-k l = all_below l.k (plain_at l.t l.v l.b) ≡ true
