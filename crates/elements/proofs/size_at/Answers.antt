use mathlib.Core.Path.{sym, ◌∙◌}
use mathlib.Core.List.{[]}
use Rattle.xml_reading.specs.rule.Word.{SIZE}
use Rattle.xml_reading.specs.rule.Element.{body, size}
use Rattle.elements.proofs.Bounds.{tag_within}
use Rattle.elements.proofs.Bodies.{body_is, body_tells, body_refused, body_lies}
use Rattle.elements.proofs.size_at.Goals as goal

pub body_at-requires : goal.body_at-requires
body_at-requires c =
    let a = c.args in
    (tag_within a.bad a.d.now a.place [] [] [] 0 0 0 0 a.end _ _ _ _
    (sym c.read_bare.ensures ∙ c.in-Read.is)).2

pub size_in-requires : goal.size_in-requires
size_in-requires c =
    let a = c.args in
    let h = c.in-Read in
    let n = (tag_within a.bad a.d.now a.place [] [] [] 0 0 0 0 a.end _ _ _ _ (sym c.read_bare.ensures
    ∙ c.in-Read.is)).2 in
    body_lies a.bad a.d.now SIZE 0 h.empty h.next n (sym c.body_at.ensures ∙ c.in-Ok.is)

pub returns-in-Ok : goal.returns-in-Ok
unfolding size
returns-in-Ok c =
    let a = c.args in
    let h = c.in-Read in
    let t = body_is (body a.bad a.d.now SIZE 0 h.empty h.next)
    (sym c.body_at.ensures ∙ c.in-Ok.is) in
    rw (sym c.read_bare.ensures ∙ c.in-Read.is) (rw t.reads
    (c.size_in.ensures a.bad h.held.unknown t.body (body_tells a.bad a.d.now SIZE 0 h.empty h.next t)
    c.behind_tag-behind.ensures))

pub returns-in-Err : goal.returns-in-Err
unfolding size
returns-in-Err c =
    let a = c.args in
    let h = c.in-Read in
    rw (sym c.read_bare.ensures ∙ c.in-Read.is)
    (rw (body_refused (body a.bad a.d.now SIZE 0 h.empty h.next)
    (sym c.body_at.ensures ∙ c.in-Err.is)))

pub returns-in-Fault : goal.returns-in-Fault
unfolding size
returns-in-Fault c = rw (sym c.read_bare.ensures ∙ c.in-Fault.is)
