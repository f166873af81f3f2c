use mathlib.Core.Path.{ap, ◌∙◌}
use Rattle.reading.specs.rule.Result.{Result, bind}
use Rattle.xml_reading.specs.rule.Word.{VARIABLE}
use Rattle.xml_reading.specs.rule.Open.{Open, within_element, over}
use Rattle.elements.specs.Code.{read_of}
use Rattle.elements.proofs.Dues.{read_open}
use Rattle.prefaces.specs.Code.{reading_of}
use Rattle.sheets.proofs.Parts.{within_first}
use Rattle.sheets.proofs.end_in.Goals as goal

pub close_in-requires : goal.close_in-requires
close_in-requires c = let a = c.args in
    within_first a.d.now a.at c.find_open-o.result c.find_open-o.ensures.1

pub returns : goal.returns
returns c =
    let a = c.args in
    let x = within_element a.bad a.d.now VARIABLE a.at in (
      c.close_in.ensures.0
          ∙ ap (λ (r : Result Open). reading_of (bind r (over a.bad a.d.now)))
          (ap read_of c.find_open-o.ensures.0 ∙ read_open x),
      c.close_in.ensures.1,
    )
