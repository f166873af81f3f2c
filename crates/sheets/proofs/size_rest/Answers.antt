use mathlib.Core.Path.{sym, ap, ◌∙◌}
use Rattle.xml_reading.specs.rule.Word.{SIZE}
use Rattle.xml_reading.specs.rule.Element.{size}
use Rattle.sheets.specs.Code.{sized_of}
use Rattle.sheets.proofs.Rests.{due_within, size_ended_lem, size_never, size_next, sized_by, sized_not}
use Rattle.sheets.proofs.size_rest.Goals as goal

pub size_at-requires : goal.size_at-requires
size_at-requires c =
    let a = c.args in
    (due_within a.bad a.d.now SIZE a.o c.requires (sym c.tag_due.ensures ∙ c.in-At.is)).1

pub end_in-e-requires : goal.end_in-e-requires
end_in-e-requires c =
    let a = c.args in
    let b = due_within a.bad a.d.now SIZE a.o c.requires (sym c.tag_due.ensures
    ∙ c.in-At.is) in
    size_next a.bad a.d.now _ _ _ b.0 (sym c.size_at.ensures ∙ c.in-Ok.is)

pub returns-in-Ok : goal.returns-in-Ok
returns-in-Ok c =
    let a = c.args in
    let e = size_ended_lem a.bad a.d.now a.o (sym c.tag_due.ensures ∙ c.in-At.is) in
    c.plain_rest.ensures ∙ rw c.end_in-e.ensures.0 (sized_by a.bad a.d.now a.before
    (size a.bad a.d.now c.in-At.place c.in-At.end) c.in-Ok.x
    (sym c.size_at.ensures ∙ c.in-Ok.is) ∙ ap (sized_of a.before) (sym e))

pub returns-in-Err : goal.returns-in-Err
returns-in-Err c =
    let a = c.args in
    let e = size_ended_lem a.bad a.d.now a.o (sym c.tag_due.ensures ∙ c.in-At.is) in
    sized_not a.bad a.d.now a.before (size a.bad a.d.now c.in-At.place c.in-At.end)
    (sym c.size_at.ensures ∙ c.in-Err.is) ∙ ap (sized_of a.before) (sym e)

pub returns-in-Not : goal.returns-in-Not
returns-in-Not c = let a = c.args in
    rw (size_never a.bad a.d.now a.o (sym c.tag_due.ensures ∙ c.in-Not.is))
