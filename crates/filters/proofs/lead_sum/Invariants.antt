use mathlib.Core.Path.{◌≡◌}
use mathlib.Core.Bool.{Bool}
use Rattle.contents.specs.rule.Content.{begun, signs_from}
use Rattle.filters.specs.Sums.{sum_from}
use Rattle.filters.proofs.lead_sum.Given as goal

abbrev pub invariant-loop-i : goal.invariant-loop-i
invariant-loop-i l = (latin : Bool) → sum_from 0 (signs_from latin l.d (begun l.at)) ≡ sum_from l.sum (signs_from latin l.d (begun l.i))
