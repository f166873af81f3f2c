use mathlib.Core.Path.{ap, ◌∙◌}
use Rattle.reading.specs.rule.Result.{Result, bind}
use Rattle.xml_reading.specs.rule.Open.{Open, within_element}
use Rattle.xml_reading.specs.rule.Sheet.{perhaps_element, heading}
use Rattle.xml_reading.specs.rule.Word.{SSS, DATE, TIME, ORIGIN, USER}
use Rattle.elements.specs.Code.{open_of}
use Rattle.prefaces.proofs.Binds.{within_first, opened_is, four}
use Rattle.prefaces.proofs.read_heading.Goals as goal

pub perhaps_text-date-requires : goal.perhaps_text-date-requires
perhaps_text-date-requires c = let a = c.args in
    within_first a.d.now a.at c.find_open-first.result c.find_open-first.ensures.1

pub returns : goal.returns
unfolding heading
returns c =
    let a = c.args in
    let b = a.bad in
    let d = a.d.now in
    let x = within_element b d SSS a.at in
    let e1 = opened_is x c.find_open-first.ensures.0 in
    let e2 = opened_is _ c.perhaps_text-date.ensures.0
    ∙ ap (λ (y : Result Open). bind y (perhaps_element b d SSS DATE 0)) e1 in
    let e3 = opened_is _ c.perhaps_text-time.ensures.0
    ∙ ap (λ (y : Result Open). bind y (perhaps_element b d SSS TIME 0)) e2 in
    let e4 = opened_is _ c.perhaps_text-origin.ensures.0
    ∙ ap (λ (y : Result Open). bind y (perhaps_element b d SSS ORIGIN 0)) e3 in (
      c.perhaps_text.ensures.0 ∙ ap (λ (y : Result Open). open_of (bind y (perhaps_element b d SSS USER 0))) e4
          ∙ ap open_of (four x (perhaps_element b d SSS DATE 0) (perhaps_element b d SSS TIME 0) (perhaps_element b d SSS ORIGIN 0)
          (perhaps_element b d SSS USER 0)),
      c.perhaps_text.ensures.1,
    )
