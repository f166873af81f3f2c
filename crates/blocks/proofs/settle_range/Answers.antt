use mathlib.Core.Path.{◌∙◌, sym}
use Rattle.blocks.specs.Code.{settled_of}
use Rattle.blocks.proofs.Parts.{below_asks, range_settled}
use Rattle.blocks.proofs.settle_range.Goals as goal

pub below_in-below-requires : goal.below_in-below-requires
below_in-below-requires c =
    let p = c.requires in
    let a = c.args in
    below_asks a.d.now a.quantity a.h p.0 p.1 (c.amount_at-a.ensures p.0.fits)
    (c.amount_at-b.ensures p.1.fits)

pub returns-in-Ok : goal.returns-in-Ok
unfolding settled_of
returns-in-Ok c =
    let p = c.requires in
    let a = c.args in
    let e =
    sym (range_settled a.d.now a.quantity a.h p.0 p.1
    (c.amount_at-a.ensures p.0.fits)
    (c.amount_at-b.ensures p.1.fits) a.next c.below_in-below.ensures)
    ∙ sym c.judge_pair.ensures ∙ c.in-Ok.is in
    rw e (c.unless.ensures ∙ rw (c.lower-all.ensures, c.fault_at-own.ensures))

pub returns-in-Err : goal.returns-in-Err
unfolding settled_of
returns-in-Err c =
    let p = c.requires in
    let a = c.args in
    let e =
    sym (range_settled a.d.now a.quantity a.h p.0 p.1
    (c.amount_at-a.ensures p.0.fits)
    (c.amount_at-b.ensures p.1.fits) a.next c.below_in-below.ensures)
    ∙ sym c.judge_pair.ensures ∙ c.in-Err.is in
    rw e

pub amount_at-a-requires : goal.amount_at-a-requires
amount_at-a-requires c = (c.requires.0.ends, c.requires.0.within)

pub amount_at-b-requires : goal.amount_at-b-requires
amount_at-b-requires c = (c.requires.1.ends, c.requires.1.within)
