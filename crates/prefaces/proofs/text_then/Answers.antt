use mathlib.Core.Path.{sym, ap, ◌∙◌}
use Rattle.xml_reading.specs.rule.Element.{text}
use Rattle.elements.proofs.Goods.{text_good}
use Rattle.prefaces.proofs.Binds.{within_first, phrase_read, phrase_is}
use Rattle.prefaces.proofs.text_then.Goals as goal

pub find_open-requires : goal.find_open-requires
find_open-requires c =
    let a = c.args in
    let e = sym (phrase_is (text a.bad a.d.now a.w.now a.mode a.place a.end)
    c.text_at.ensures) ∙ ap phrase_read c.in-Ok.is in
    (text_good a.bad a.d.now a.w.now a.mode a.place a.end e).within

pub returns-in-Ok : goal.returns-in-Ok
returns-in-Ok c =
    let a = c.args in
    let e = sym (phrase_is (text a.bad a.d.now a.w.now a.mode a.place a.end)
    c.text_at.ensures) ∙ ap phrase_read c.in-Ok.is in (
      rw e c.find_open.ensures.0,
      within_first a.d.now c.in-Ok.t.next c.find_open.result
          c.find_open.ensures.1,
    )

pub returns-in-Err : goal.returns-in-Err
returns-in-Err c =
    let a = c.args in
    let e = sym (phrase_is (text a.bad a.d.now a.w.now a.mode a.place a.end)
    c.text_at.ensures) ∙ ap phrase_read c.in-Err.is in
    (rw e, tt)
