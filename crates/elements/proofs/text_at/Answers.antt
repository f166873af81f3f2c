use mathlib.Core.Path.{sym, ◌∙◌}
use mathlib.Core.List.{[]}
use Rattle.xml_reading.specs.rule.Element.{body, text}
use Rattle.elements.proofs.Bounds.{tag_within}
use Rattle.elements.proofs.Bodies.{text_said, body_refused}
use Rattle.elements.proofs.text_at.Goals as goal

pub body_at-requires : goal.body_at-requires
body_at-requires c =
    let a = c.args in
    (tag_within a.bad a.d.now a.place [] [] [] 0 0 0 0 a.end _ _ _ _
    (sym c.read_bare.ensures ∙ c.in-Read.is)).2

pub returns-in-Ok : goal.returns-in-Ok
unfolding text
returns-in-Ok c =
    let a = c.args in
    rw (sym c.read_bare.ensures ∙ c.in-Read.is) (c.said.ensures
    ∙ text_said a.bad a.d.now a.w.now a.mode _ _ _ _ (sym c.body_at.ensures ∙ c.in-Ok.is) _
    c.behind_tag-found.ensures)

pub returns-in-Err : goal.returns-in-Err
unfolding text
returns-in-Err c =
    let a = c.args in
    let h = c.in-Read in
    rw (sym c.read_bare.ensures ∙ c.in-Read.is)
    (rw (body_refused (body a.bad a.d.now a.w.now a.mode h.empty h.next)
    (sym c.body_at.ensures ∙ c.in-Err.is)))

pub returns-in-Fault : goal.returns-in-Fault
unfolding text
returns-in-Fault c = rw (sym c.read_bare.ensures ∙ c.in-Fault.is)
