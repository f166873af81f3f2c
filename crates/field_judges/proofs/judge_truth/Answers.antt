-- `field_judges::judge_truth` meets its contract.
use mathlib.Core.Path.{refl}
use native.Mathlib.Omega.{arith}
use Rattle.field_judges.specs.Judged.{judged_none, judged_some, truth_read}
use Rattle.field_judges.proofs.judge_truth.Goals as goal

pub overflow_add-result : goal.overflow_add-result
overflow_add-result c = let stop = c.stops.ensures c.if-not-stops.false in omega (arith, stop.within)

pub returns : goal.returns
returns c =
    let stop = c.stops.ensures c.if-not-stops.false in
    judged_some (truth_read _ _ _ stop c.requires (omega (arith, c.if-d-at.false)) (omega (arith, c.if-b-lt48.false))
    (omega (arith, c.if-b-gt49.false)) refl)

pub returns-then-d-at : goal.returns-then-d-at
returns-then-d-at c = judged_none _ _ _ _ _

pub returns-then-b-lt48 : goal.returns-then-b-lt48
returns-then-b-lt48 c = judged_none _ _ _ _ _

pub returns-then-b-gt49 : goal.returns-then-b-gt49
returns-then-b-gt49 c = judged_none _ _ _ _ _

pub returns-then-not-stops : goal.returns-then-not-stops
returns-then-not-stops c = judged_none _ _ _ _ _
