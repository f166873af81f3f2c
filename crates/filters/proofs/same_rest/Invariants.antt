use mathlib.Core.Path.{◌≡◌}
use lib.ListN.{length}
use Rattle.contents.specs.rule.Content.{begun, signs_from, content_signs}
use Rattle.xml_reading.specs.rule.Role.{alike}
use Rattle.filters.specs.Code.{Ready}
use Rattle.filters.proofs.same_rest.Given as goal

abbrev pub invariant-loop-m : goal.invariant-loop-m
invariant-loop-m l = (alike l.standard (signs_from l.latin l.s (begun l.p)) (signs_from l.latin l.t (begun l.q))
    ≡ alike l.standard (content_signs l.latin l.s l.a) (content_signs l.latin l.t l.b))
    × Ready l.s l.a
    × Ready l.t l.b

abbrev pub decreases-loop-m : goal.decreases-loop-m
decreases-loop-m l = length (content_signs l.latin l.s l.a)
