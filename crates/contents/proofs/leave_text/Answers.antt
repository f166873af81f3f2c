use mathlib.Core.Path.{sym}
use Rattle.contents.proofs.Walking.{closes_leave}
use Rattle.contents.proofs.leave_text.Goals as goal

pub returns-then-behind-ne0 : goal.returns-then-behind-ne0
returns-then-behind-ne0 c =
    let a = c.args in
    sym (closes_leave a.bad a.d.now a.mode a.w.now a.g.inside a.g.unknown a.g.next _ c.requires.1
    (c.end_behind-behind.ensures c.if-behind-ne0.true))
