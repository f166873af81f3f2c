use mathlib.Core.Path.{sym, ◌∙◌}
use Rattle.sheets.specs.Code.{position_in}
use Rattle.sheets.proofs.Parts.{placed_by, placed_not}
use Rattle.sheets.proofs.place_front.Goals as goal

pub returns-in-Ok : goal.returns-in-Ok
returns-in-Ok c =
    let a = c.args in
    let e = sym c.position_in.ensures.0 ∙ c.in-Ok.is in
    let v = rw c.in-Ok.is at c.position_in.ensures.1 in
    rw (c.text_of-label.ensures, c.text_of-name.ensures) (
      placed_by a.ident a.kind a.usage a.a a.b (position_in a.bad a.d.now a.b.next) c.in-Ok.q e,
      (v.0, c.requires.0, v.1, v.2, v.3),
    )

pub returns-in-Err : goal.returns-in-Err
returns-in-Err c =
    let a = c.args in
    let e = sym c.position_in.ensures.0 ∙ c.in-Err.is in
    (placed_not a.ident a.kind a.usage a.a a.b (position_in a.bad a.d.now a.b.next) e, tt)
