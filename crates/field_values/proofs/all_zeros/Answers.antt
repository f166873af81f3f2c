use mathlib.Core.Path.{sym, ◌∙◌}
use borrow.Author.Tests.{eq-eqb, ne_eqb}
use Rattle.field_values.specs.Steps.{zeros_next, zeros_over}
use Rattle.field_values.proofs.all_zeros.Goals as goal

pub returns-then-b-ne48 : goal.returns-then-b-ne48
returns-then-b-ne48 c = sym (c.loop-b.invariant
    ∙ zeros_next c.args.s.now c.loop-b.b-index
    c.loop-b-test.true ∙ rw (ne_eqb _ _ c.if-b-ne48.true))

pub loop-b-preserved : goal.loop-b-preserved
loop-b-preserved c = c.loop-b.invariant
    ∙ zeros_next c.args.s.now c.loop-b.b-index
    c.loop-b-test.true ∙ rw (eq-eqb _ _ c.if-b-ne48.false)

pub returns : goal.returns
returns c = sym (c.loop-b.invariant ∙ zeros_over c.args.s.now c.loop-b.b-index c.loop-b-test.false)
