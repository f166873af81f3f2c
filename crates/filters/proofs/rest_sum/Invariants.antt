use mathlib.Core.Path.{◌≡◌}
use lib.ListN.{length}
use Rattle.contents.specs.rule.Content.{begun, signs_from, content_signs}
use Rattle.filters.specs.Code.{Ready}
use Rattle.filters.specs.Sums.{sum_from}
use Rattle.filters.proofs.rest_sum.Given as goal

abbrev pub invariant-loop-sign : goal.invariant-loop-sign
invariant-loop-sign l = (sum_from l.before (signs_from l.latin l.d (begun l.at)) ≡ sum_from l.sum (content_signs l.latin l.d l.c))
    × Ready l.d l.c

abbrev pub decreases-loop-sign : goal.decreases-loop-sign
decreases-loop-sign l = length (content_signs l.latin l.d l.c)
