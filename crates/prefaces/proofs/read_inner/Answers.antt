use mathlib.Core.Path.{ap, ◌∙◌}
use Rattle.reading.specs.rule.Result.{Result, bind}
use Rattle.xml_reading.specs.rule.Open.{Open, due}
use Rattle.xml_reading.specs.rule.Sheet.{heading, survey, titles, record_tag}
use Rattle.prefaces.specs.Code.{rule_of, reading_of, inner_of}
use Rattle.xml_reading.specs.rule.Word.{SURVEY, RECORD}
use Rattle.prefaces.proofs.Binds.{opened_is, passed_is, three}
use Rattle.prefaces.proofs.read_inner.Goals as goal

pub returns : goal.returns
unfolding inner_of
returns c =
    let a = c.args in
    let b = a.bad in
    let d = a.d.now in
    let m = rule_of a.m in
    let x = heading b d a.at in
    let e1 = opened_is x c.read_heading-heading.ensures.0 in
    let e2 = passed_is _ c.survey_on-survey.ensures.0
    ∙ ap (λ (y : Result Open). bind y (λ o. due b d SURVEY o (survey b d))) e1 in
    let e3 = opened_is _ c.titles_on-titles.ensures.0 ∙ ap (λ (y : Result Unit). bind y (λ u. titles b d m)) e2 in (
      c.record_on.ensures.0
          ∙ ap (λ (y : Result Open). reading_of (bind y (λ o. due b d RECORD o (record_tag b d m)))) e3
          ∙ ap reading_of (three x (λ o. due b d SURVEY o (survey b d)) (λ u. titles b d m) (λ o. due b d RECORD o (record_tag b d m))),
      c.record_on.ensures.1,
    )

pub survey_on-survey-requires : goal.survey_on-survey-requires
survey_on-survey-requires c = c.read_heading-heading.ensures.1

pub titles_on-titles-requires : goal.titles_on-titles-requires
titles_on-titles-requires c = c.survey_on-survey.ensures.1

pub record_on-requires : goal.record_on-requires
record_on-requires c = c.titles_on-titles.ensures.1
