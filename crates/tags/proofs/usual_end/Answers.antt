use mathlib.Core.Path.{refl, sym, ◌∙◌}
use native.Mathlib.Omega.{arith}
use Rattle.tags.proofs.Usuals.{usual_given}
use Rattle.tags.proofs.usual_end.Goals as goal

pub returns-then-stretch_fits : goal.returns-then-stretch_fits
returns-then-stretch_fits c e =
    let a = c.args in
    usual_given a.d.now a.at a.w.now _
    (c.is_usual.ensures c.if-not-is_usual.false)
    (c.value_end-k.ensures c.if-k-eq0.false)
    a.form (sym c.stretch_fits.ensures ∙ c.if-stretch_fits.true)

pub returns-then-not-is_usual : goal.returns-then-not-is_usual
returns-then-not-is_usual c e = absurd (e refl)

pub overflow_add-v : goal.overflow_add-v
overflow_add-v c = let u = (c.is_usual.ensures c.if-not-is_usual.false).within in omega arith

pub overflow_add-v-2 : goal.overflow_add-v-2
overflow_add-v-2 c = let u = (c.is_usual.ensures c.if-not-is_usual.false).within in omega arith

pub value_end-k-requires : goal.value_end-k-requires
value_end-k-requires c = let u = (c.is_usual.ensures c.if-not-is_usual.false).within in omega arith

pub returns-then-k-eq0 : goal.returns-then-k-eq0
returns-then-k-eq0 c e = absurd (e refl)

pub stretch_fits-requires : goal.stretch_fits-requires
stretch_fits-requires c = let v = c.value_end-k.ensures c.if-k-eq0.false in let w = v.within in (v.on, omega arith)

pub returns-else-stretch_fits : goal.returns-else-stretch_fits
returns-else-stretch_fits c e = absurd (e refl)
