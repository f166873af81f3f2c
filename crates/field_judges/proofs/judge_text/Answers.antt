-- `field_judges::judge_text` meets its contract.
use native.Mathlib.Omega.{arith}
use Rattle.field_judges.specs.Judged.{judged_none, judged_some, text_read}
use Rattle.field_judges.proofs.judge_text.Goals as goal

pub text_to-to-requires : goal.text_to-to-requires
text_to-to-requires c = c.requires.1

pub overflow_sub-to : goal.overflow_sub-to
overflow_sub-to c = omega (arith, c.text_to-to.ensures.bared.on)

pub overflow_sub-to-2 : goal.overflow_sub-to-2
overflow_sub-to-2 c = omega (arith, c.text_to-to.ensures.bared.on, c.if-to-at.false)

pub bounds-d-to : goal.bounds-d-to
bounds-d-to c = let b = c.text_to-to.ensures.bared in
    omega (arith, b.on, b.within, c.if-to-at.false)

pub returns-then-to-at : goal.returns-then-to-at
returns-then-to-at c = judged_none _ _ _ _ _

pub returns-then-w-to : goal.returns-then-w-to
returns-then-w-to c = judged_none _ _ _ _ _

pub returns-then-d-to-le32 : goal.returns-then-d-to-le32
returns-then-d-to-le32 c = judged_none _ _ _ _ _

pub returns-then-not-stops : goal.returns-then-not-stops
returns-then-not-stops c = judged_none _ _ _ _ _

pub overflow_add-result : goal.overflow_add-result
overflow_add-result c = let stop = c.stops.ensures c.if-not-stops.false in omega (arith, stop.within)

pub returns : goal.returns
returns c =
    let stop = c.stops.ensures c.if-not-stops.false in
    let b = c.text_to-to.ensures in
    judged_some (text_read _ _ _ stop c.requires.0 b
    (omega (arith, b.bared.on, c.if-to-at.false))
    (omega (arith, c.if-w-to.false))
    (omega (arith, c.if-d-to-le32.false)))
