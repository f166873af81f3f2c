use mathlib.Core.Path.{◌≡◌, ap, ◌∙◌}
use Rattle.reading.specs.rule.Result.{Result, bind, give}
use Rattle.xml_reading.specs.rule.Word.{VARIABLE}
use Rattle.xml_reading.specs.rule.Open.{Open, within_element, due}
use Rattle.elements.specs.Code.{read_of, due_of}
use Rattle.elements.proofs.Dues.{read_open}
use Rattle.sheets.specs.Code.{due_in}
use Rattle.sheets.proofs.Parts.{within_first, due_ends}
use Rattle.sheets.proofs.next_due.Goals as goal

pub tag_due-requires : goal.tag_due-requires
tag_due-requires c = let a = c.args in
    within_first a.d.now a.at c.find_open-o.result c.find_open-o.ensures.1

pub returns : goal.returns
returns c =
    let a = c.args in
    let x = within_element a.bad a.d.now VARIABLE a.at in
    let e : c.tag_due.result ≡ due_of (due_in a.bad a.d.now a.w.now a.at) =
    c.tag_due.ensures
    ∙ ap (λ (r : Result Open). due_of (bind r (λ o. due a.bad a.d.now a.w.now o give)))
    (ap read_of c.find_open-o.ensures.0 ∙ read_open x) in
    (e, rw e (due_ends a.bad a.d.now a.w.now a.at))
