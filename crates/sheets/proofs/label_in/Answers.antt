use mathlib.Core.Path.{◌≡◌, sym, ap, ◌∙◌}
use Rattle.xml_reading.specs.rule.Word.{LABEL}
use Rattle.xml_reading.specs.rule.Element.{text}
use Rattle.xml_reading.specs.rule.Block.{rich}
use Rattle.elements.specs.Code.{phrase_of}
use Rattle.xml_laws.specs.Reads.{text_long}
use Rattle.sheets.specs.Code.{label_in}
use Rattle.sheets.proofs.Parts.{due_goes, due_stops, phrase_ends}
use Rattle.sheets.proofs.label_in.Goals as goal

pub text_at-requires : goal.text_at-requires
text_at-requires c = let v = rw c.in-At.is at
    c.next_due.ensures.1 in v.1

pub returns-in-At : goal.returns-in-At
returns-in-At c =
    let a = c.args in
    let k = text a.bad a.d.now LABEL (rich a.languages) in
    let e = due_goes a.bad a.d.now LABEL k a.at
    (sym c.next_due.ensures.0 ∙ c.in-At.is) in
    let r : c.text_at.result ≡ phrase_of (label_in a.bad a.d.now a.languages a.at) =
    c.text_at.ensures ∙ rw c.mode_of-mode.ensures (ap phrase_of (sym e)) in (
      r,
      rw r (phrase_ends a.bad a.d.now (label_in a.bad a.d.now a.languages a.at)
          (λ t n f. text_long a.bad a.d.now LABEL (rich a.languages) _ _ (sym e ∙ f))),
    )

pub returns-in-Not : goal.returns-in-Not
returns-in-Not c =
    let a = c.args in
    let e = due_stops a.bad a.d.now LABEL (text a.bad a.d.now LABEL (rich a.languages)) a.at
    (sym c.next_due.ensures.0 ∙ c.in-Not.is) in
    (rw e, tt)
