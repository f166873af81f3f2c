use mathlib.Core.Path.{sym, ◌∙◌}
use mathlib.Core.List.{[]}
use Rattle.xml_reading.specs.rule.Word.{SUBFIELDS, WIDTH}
use Rattle.xml_reading.specs.rule.Element.{spread}
use Rattle.elements.proofs.Tags.{tag_tells, first_there}
use Rattle.elements.proofs.spread_at.Goals as goal

pub read_tag-requires : goal.read_tag-requires
read_tag-requires c = c.requires.0

pub spread_held-requires : goal.spread_held-requires
spread_held-requires c =
    let a = c.args in
    let t = tag_tells a.d.now 1 1 0 a.bad a.place a.end SUBFIELDS WIDTH [] 1
    (sym c.read_tag.ensures ∙ c.in-Read.is) in
    ((first_there a.d.now 1 1 0 t, t.slots.b), t.next, c.requires.1)

pub returns-in-Read : goal.returns-in-Read
unfolding spread
returns-in-Read c = rw (sym c.read_tag.ensures ∙ c.in-Read.is) c.spread_held.ensures

pub returns-in-Fault : goal.returns-in-Fault
unfolding spread
returns-in-Fault c = rw (sym c.read_tag.ensures ∙ c.in-Fault.is)
