use mathlib.Core.Path.{sym, ◌∙◌}
use Rattle.reading.specs.rule.Least.{named}
use Rattle.xml_reading.specs.rule.Element.{body}
use Rattle.elements.specs.Code.{found_of}
use Rattle.elements.proofs.Bounds.{content_within}
use Rattle.elements.proofs.body_at.Goals as goal

pub returns-then-empty : goal.returns-then-empty
unfolding body found_of named
returns-then-empty c = rw c.if-empty.true c.lying.ensures

pub lying-requires-in-Read : goal.lying-requires-in-Read
lying-requires-in-Read c =
    let a = c.args in
    (content_within a.bad a.d.now a.mode a.w.now a.at _ _ _ c.requires
    (sym c.read_content.ensures ∙ c.in-Read.is)).0

pub returns-in-Read : goal.returns-in-Read
unfolding body found_of named
returns-in-Read c = rw (
  c.if-empty.false,
  sym c.read_content.ensures ∙ c.in-Read.is,
) c.lying-in-Read.ensures

pub returns-in-Cut : goal.returns-in-Cut
unfolding body
returns-in-Cut c = rw (
  c.if-empty.false,
  sym c.read_content.ensures ∙ c.in-Cut.is,
) c.lying-in-Cut.ensures

pub returns-in-Fault : goal.returns-in-Fault
unfolding body
returns-in-Fault c = rw (
  c.if-empty.false,
  sym c.read_content.ensures ∙ c.in-Fault.is,
)
