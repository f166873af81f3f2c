-- `field_judges::judge_bits` meets its contract.
use native.Mathlib.Omega.{arith}
use Rattle.field_judges.specs.Judged.{judged_none, judged_some, bits_stand, codes_fit}
use Rattle.field_judges.proofs.judge_bits.Goals as goal

pub returns-then-not-full : goal.returns-then-not-full
returns-then-not-full c = judged_none _ _ _ _ _

pub codes_to-to-requires : goal.codes_to-to-requires
codes_to-to-requires c = (c.requires.2, omega arith)

pub returns-then-to-at : goal.returns-then-to-at
returns-then-to-at c = judged_none _ _ _ _ _

pub returns-then-not-stops : goal.returns-then-not-stops
returns-then-not-stops c = judged_none _ _ _ _ _

pub overflow_add-result : goal.overflow_add-result
overflow_add-result c = let stop = c.stops.ensures c.if-not-stops.false in omega (arith, stop.within)

pub returns : goal.returns
returns c =
    let stop = c.stops.ensures c.if-not-stops.false in
    let k = c.codes_to-to.ensures c.if-to-at.false in
    judged_some (bits_stand _ _ _ stop k.ms c.requires.1 (codes_fit _ _ _ k (c.requires.0
    c.if-not-full.false)) k.reads)
