use mathlib.Core.Path.{sym, ◌∙◌}
use Rattle.xml_reading.specs.rule.Word.{VALUES}
use Rattle.sheets.proofs.Rests.{due_within, listed_next, valued_due, valued_not, valued_ended, valued_is}
use Rattle.sheets.proofs.values_rest.Goals as goal

pub values_at-requires : goal.values_at-requires
values_at-requires c =
    let a = c.args in record {
      end_in_bounds = (
        (due_within a.bad a.d.now VALUES a.o c.requires.within.0
            (sym c.tag_due.ensures ∙ c.in-At.is)).1,
        c.requires.within.1,
      );
      lines_len = c.requires.lines_len;
    }

pub end_in-requires : goal.end_in-requires
end_in-requires c =
    let a = c.args in
    listed_next a.bad a.d.now a.languages a.quantity a.before _ (λ x m e. c.values_at.ensures.next e)
    (sym c.values_at.ensures.answer ∙ c.in-Is.is)

pub returns-in-Ok : goal.returns-in-Ok
returns-in-Ok c =
    let a = c.args in
    valued_is a.bad a.d.now a.languages a.quantity a.before a.count a.width a.o _ _ (sym c.tag_due.ensures ∙ c.in-At.is)
    (sym c.values_at.ensures.answer ∙ c.in-Is.is)
    (sym c.end_in.ensures.0 ∙ c.in-Ok.is) c.values_at.ensures.stored

pub returns-in-Err : goal.returns-in-Err
returns-in-Err c =
    let a = c.args in
    valued_ended a.bad a.d.now a.languages a.quantity a.before a.count a.width a.o _ _ (sym c.tag_due.ensures ∙ c.in-At.is)
    (sym c.values_at.ensures.answer ∙ c.in-Is.is)
    (sym c.end_in.ensures.0 ∙ c.in-Err.is)

pub returns-in-Not-values_at : goal.returns-in-Not-values_at
returns-in-Not-values_at c =
    let a = c.args in
    valued_not a.bad a.d.now a.languages a.quantity a.before a.count a.width a.o _ _
    (sym c.tag_due.ensures ∙ c.in-At.is)
    (sym c.values_at.ensures.answer ∙ c.in-Not-values_at.is)

pub returns-in-Not : goal.returns-in-Not
returns-in-Not c =
    let a = c.args in
    valued_due a.bad a.d.now a.languages a.quantity a.before a.count a.width a.o _ _
    (sym c.tag_due.ensures ∙ c.in-Not.is)
