use mathlib.Core.Path.{sym, ◌∙◌}
use Rattle.xml_reading.specs.rule.Sheet.{survey}
use Rattle.xml_reading.specs.rule.Word.{SURVEY}
use Rattle.elements.proofs.Dues.{due_then}
use Rattle.prefaces.proofs.Binds.{due_in}
use Rattle.prefaces.proofs.survey_on.Goals as goal

pub read_survey-requires : goal.read_survey-requires
read_survey-requires c =
    let a = c.args in
    due_in a.bad a.d.now SURVEY a.o _ _ c.requires (sym c.tag_due.ensures ∙ c.in-At.is)

pub returns-in-At : goal.returns-in-At
returns-in-At c =
    let a = c.args in
    let e = sym c.tag_due.ensures ∙ c.in-At.is in (
      rw (due_then a.bad a.d.now SURVEY a.o (survey a.bad a.d.now), e) c.read_survey.ensures.0,
      c.read_survey.ensures.1,
    )

pub returns-in-Not : goal.returns-in-Not
returns-in-Not c =
    let a = c.args in
    let e = sym c.tag_due.ensures ∙ c.in-Not.is in
    (rw (due_then a.bad a.d.now SURVEY a.o (survey a.bad a.d.now), e), tt)
