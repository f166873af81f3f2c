use mathlib.Core.Path.{sym, ◌∙◌}
use native.Mathlib.Omega.{arith}
use Rattle.attributes.proofs.Places.{attribute_one}
use Rattle.tags.specs.rule.Tag.{turn_of}
use Rattle.tags.proofs.take_turn.Goals as goal

pub slot-place-requires : goal.slot-place-requires
slot-place-requires c =
    let a = c.args in
    let f = attribute_one a.bad a.d.now a.opened a.h.next
    (sym c.next_attribute.ensures ∙ c.in-One.is) in
    let i = f.named in
    let j = f.before in
    let k = f.valued in
    let l = f.within in
    (i, omega arith)

pub stretch_fits-good-requires : goal.stretch_fits-good-requires
stretch_fits-good-requires c =
    let a = c.args in
    let f = attribute_one a.bad a.d.now a.opened a.h.next
    (sym c.next_attribute.ensures ∙ c.in-One.is) in
    let l = f.within in
    (f.valued, omega arith)

pub returns-in-One : goal.returns-in-One
unfolding turn_of
returns-in-One c =
    rw (sym c.next_attribute.ensures
    ∙ c.in-One.is)
    (rw (← c.slot-place.ensures, ← c.form_of-form.ensures, ← c.stretch_fits-good.ensures)
    c.put.ensures)

pub returns-in-Shut : goal.returns-in-Shut
unfolding turn_of
returns-in-Shut c = rw (sym c.next_attribute.ensures ∙ c.in-Shut.is, c.shut.ensures)

pub returns-in-Faulty : goal.returns-in-Faulty
unfolding turn_of
returns-in-Faulty c = rw (sym c.next_attribute.ensures ∙ c.in-Faulty.is)
