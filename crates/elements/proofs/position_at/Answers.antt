use mathlib.Core.Path.{sym, ◌∙◌}
use mathlib.Core.List.{[]}
use Rattle.xml_reading.specs.rule.Word.{START, FINISH}
use Rattle.xml_reading.specs.rule.Element.{position}
use Rattle.elements.proofs.Tags.{tag_tells, first_there}
use Rattle.elements.proofs.position_at.Goals as goal

pub read_tag-requires : goal.read_tag-requires
read_tag-requires c = c.requires

pub position_held-requires : goal.position_held-requires
position_held-requires c =
    let a = c.args in
    let t = tag_tells a.d.now 1 1 0 a.bad a.place a.end START FINISH [] 1
    (sym c.read_tag.ensures ∙ c.in-Read.is) in
    ((first_there a.d.now 1 1 0 t, t.slots.b), t.next)

pub returns-in-Read : goal.returns-in-Read
unfolding position
returns-in-Read c = rw (sym c.read_tag.ensures ∙ c.in-Read.is) c.position_held.ensures

pub returns-in-Fault : goal.returns-in-Fault
unfolding position
returns-in-Fault c = rw (sym c.read_tag.ensures ∙ c.in-Fault.is)
