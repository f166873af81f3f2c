use mathlib.Core.Path.{sym, ◌∙◌}
use Rattle.xml_reading.specs.rule.Sheet.{survey}
use mathlib.Core.List.{[]}
use Rattle.prefaces.proofs.Places.{survey_read, enter_in}
use Rattle.elements.proofs.Bounds.{tag_within}
use Rattle.prefaces.proofs.read_survey.Goals as goal

pub returns-in-Read : goal.returns-in-Read
returns-in-Read c =
    let a = c.args in
    let e = sym c.read_bare.ensures ∙ c.in-Read.is in (
      rw (survey_read a.bad a.d.now a.opened a.at e) c.enter_tag.ensures,
      rw c.enter_tag.ensures (enter_in a.d.now _ _ _ _
          (tag_within a.bad a.d.now a.opened [] [] [] 0 0 0 0 a.at _ _ _ _ e).2),
    )

pub returns-in-Fault : goal.returns-in-Fault
unfolding survey
returns-in-Fault c = (rw (sym c.read_bare.ensures ∙ c.in-Fault.is), tt)
