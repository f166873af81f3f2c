use mathlib.Core.Path.{◌≡◌, sym, ap, ◌∙◌}
use Rattle.bridge.specs.Statements.{to_stated}
use Rattle.xml_reading.specs.rule.Word.{POSITION}
use Rattle.xml_reading.specs.rule.Element.{position}
use Rattle.xml_laws.specs.Reads.{position_fine}
use Rattle.sheets.specs.Code.{position_in}
use Rattle.sheets.proofs.Parts.{due_goes, due_stops, stated_ends}
use Rattle.sheets.proofs.position_in.Goals as goal

pub position_at-requires : goal.position_at-requires
position_at-requires c = let v = rw c.in-At.is at c.next_due.ensures.1 in v.1

pub returns-in-At : goal.returns-in-At
returns-in-At c =
    let a = c.args in
    let e = due_goes a.bad a.d.now POSITION (position a.bad a.d.now) a.at
    (sym c.next_due.ensures.0 ∙ c.in-At.is) in
    let r : c.position_at.result ≡ to_stated (position_in a.bad a.d.now a.at) = c.position_at.ensures ∙ ap to_stated (sym e) in (
      r,
      rw r (stated_ends a.bad a.d.now (position_in a.bad a.d.now a.at)
          (λ p n f. position_fine a.bad a.d.now _ _ (sym e ∙ f))),
    )

pub returns-in-Not : goal.returns-in-Not
returns-in-Not c =
    let a = c.args in
    let e = due_stops a.bad a.d.now POSITION (position a.bad a.d.now) a.at
    (sym c.next_due.ensures.0 ∙ c.in-Not.is) in
    (rw e, tt)
