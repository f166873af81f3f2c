use mathlib.Core.Path.{sym}
use Rattle.contents.proofs.Passing.{strides}
use Rattle.contents.proofs.Walking.{closes_end}
use Rattle.contents.proofs.pass_step.Goals as goal

pub leave_text-requires : goal.leave_text-requires
leave_text-requires c = (c.pass_marks-next.ensures.within, c.if-k.true)

pub returns-then-k : goal.returns-then-k
returns-then-k c =
    let a = c.args in
    let x = c.pass_marks-next.ensures in
    strides a.bad a.d.now a.mode a.w.now a.g _ _
    (x.again a.mode a.w.now a.g.inside a.g.unknown (sym c.mode_in-within.ensures)) x.on
    (sym c.leave_text.ensures)

pub returns-then-behind-ne0 : goal.returns-then-behind-ne0
returns-then-behind-ne0 c =
    let a = c.args in
    let x = c.pass_marks-next.ensures in
    strides a.bad a.d.now a.mode a.w.now a.g _ _
    (x.again a.mode a.w.now a.g.inside a.g.unknown (sym c.mode_in-within.ensures)) x.on
    (closes_end a.bad a.d.now a.mode a.w.now a.g.inside a.g.unknown _ _ c.if-k.false
    (c.end_behind-behind.ensures c.if-behind-ne0.true))

pub returns : goal.returns
returns c =
    let a = c.args in
    let x = c.pass_marks-next.ensures in
    strides a.bad a.d.now a.mode a.w.now a.g _ _
    (x.again a.mode a.w.now a.g.inside a.g.unknown (sym c.mode_in-within.ensures))
    x.on (sym c.take_step.ensures)

pub end_behind-behind-requires : goal.end_behind-behind-requires
end_behind-behind-requires c = c.pass_marks-next.ensures.within
