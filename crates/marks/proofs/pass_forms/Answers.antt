use mathlib.Core.Path.{◌∙◌}
use native.Mathlib.Omega.{arith}
use Rattle.marks.proofs.Strings.{string_past}
use Rattle.marks.proofs.pass_forms.Goals as goal

pub loop-n-init : goal.loop-n-init
loop-n-init c = string_past _ _ _ c.skip_pair-n.ensures

pub overflow_add-n : goal.overflow_add-n
overflow_add-n c = omega (arith, (c.form_at.ensures c.if-form_at.true).0)

pub loop-n-smaller : goal.loop-n-smaller
loop-n-smaller c = omega (arith, (c.form_at.ensures c.if-form_at.true).0, c.skip_pair-n-then-form_at.ensures.on)

pub loop-n-preserved : goal.loop-n-preserved
loop-n-preserved c =
    c.loop-n.invariant
    ∙ (c.form_at.ensures c.if-form_at.true).1
    ∙ string_past _ _ _ c.skip_pair-n-then-form_at.ensures

pub returns-else-form_at : goal.returns-else-form_at
returns-else-form_at c = c.loop-n.invariant
