use mathlib.Core.Path.{◌≡◌, refl, sym, ap, ◌∙◌}
use mathlib.Core.Bool.{false}
use mathlib.Core.Option.{none, some}
use native.Mathlib.Omega.{arith}
use Rattle.survey.specs.rule.Survey.{multiple}
use Rattle.reading.specs.rule.Result.{Result, Is, bind}
use Rattle.xml_reading.specs.rule.Word.{VARIABLE, SPREAD}
use Rattle.xml_reading.specs.rule.Open.{Open, within_element}
use Rattle.xml_reading.specs.rule.Element.{spread}
use Rattle.elements.specs.Code.{read_of}
use Rattle.elements.proofs.Dues.{read_open}
use Rattle.prefaces.specs.Code.{rule_of}
use Rattle.xml_laws.specs.Reads.{spread_fine}
use Rattle.sheets.specs.Code.{values_ended}
use Rattle.sheets.proofs.Parts.{within_first}
use Rattle.sheets.proofs.Rests.{due_within}
use Rattle.sheets.proofs.TypedRest.{spread_read, spread_refused, rests_of, rests_spread, rests_not, content_unspread, spread_stands}
use Rattle.sheets.proofs.TypedRest.{content_spread, spread_not}
use Rattle.sheets.proofs.spread_rest.Goals as goal

pub returns-then-not-is_start : goal.returns-then-not-is_start
returns-then-not-is_start c =
    let a = c.args in
    rests_of (multiple none) (λ b n. refl) (λ b. refl) (content_unspread a.bad a.d.now (rule_of a.m) a.before a.room a.o
    (sym c.is_start.ensures ∙ c.if-not-is_start.true)) c.values_rest.ensures

pub spread_at-requires : goal.spread_at-requires
spread_at-requires c =
    let a = c.args in
    let p = c.requires in (
      (due_within a.bad a.d.now SPREAD a.o p.within.0
          (sym c.tag_due.ensures ∙ c.in-At.is)).1,
      omega (arith, p.within.3),
    )

pub find_open-p-requires : goal.find_open-p-requires
find_open-p-requires c =
    let a = c.args in
    let p = c.requires in
    let y = spread_read a.room (spread a.bad a.d.now a.room _ _)
    (sym c.spread_at.ensures ∙ c.in-Ok.is) in
    (spread_fine a.bad a.d.now a.room _ _ p.within.2 p.within.3 y.is).next

pub values_rest-requires-in-Ok : goal.values_rest-requires-in-Ok
values_rest-requires-in-Ok c =
    let a = c.args in
    let p = c.requires in record {
      within = (
        within_first a.d.now c.in-Ok.s.next c.find_open-p.result
            c.find_open-p.ensures.1,
        p.within.1,
      );
      lines_len = p.lines_len;
    }

pub returns-in-Ok : goal.returns-in-Ok
returns-in-Ok c =
    let a = c.args in
    let n = c.in-Ok.s.next in
    let y = spread_read a.room (spread a.bad a.d.now a.room _ _) (sym c.spread_at.ensures
    ∙ c.in-Ok.is) in
    let e = content_spread a.bad a.d.now (rule_of a.m) a.before a.room a.o
    (sym c.is_start.ensures ∙ c.if-not-is_start.false) (sym c.tag_due.ensures ∙ c.in-At.is) y.spread n y.is in
    let o : read_of c.find_open-p.result ≡ within_element a.bad a.d.now VARIABLE n =
    ap read_of c.find_open-p.ensures.0 ∙ read_open (within_element a.bad a.d.now VARIABLE n) in
    rests_spread y.spread y.count_is y.width_is
    (e ∙ ap (λ (r : Result Open). bind (bind r (values_ended a.bad a.d.now a.m.languages false a.before))
    (λ b n. Is (multiple (some y.spread) b) n)) (sym o)) c.values_rest-in-Ok.ensures

pub returns-in-Err : goal.returns-in-Err
returns-in-Err c =
    let a = c.args in
    rests_not (spread_not a.bad a.d.now (rule_of a.m) a.before a.room a.o (sym c.is_start.ensures
    ∙ c.if-not-is_start.false) (sym c.tag_due.ensures ∙ c.in-At.is)
    (spread_refused a.room (spread a.bad a.d.now a.room _ _)
    (sym c.spread_at.ensures ∙ c.in-Err.is)))

pub returns-in-Not : goal.returns-in-Not
returns-in-Not c =
    let a = c.args in
    spread_stands a.bad a.d.now (rule_of a.m) a.before a.o (sym c.is_start.ensures
    ∙ c.if-not-is_start.false) (sym c.tag_due.ensures ∙ c.in-Not.is)
