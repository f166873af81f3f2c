use borrow.Author.Tests.{eq-eqb, ne_eqb}
use Rattle.contents.specs.rule.Step.{start_at}
use Rattle.contents.proofs.step_start.Goals as goal

pub returns-then-kind-eq1 : goal.returns-then-kind-eq1
unfolding start_at
returns-then-kind-eq1 c = rw (← c.mode_in-within.ensures)
    (rw (← c.kind_of-kind.ensures, eq-eqb _ 1 c.if-kind-eq1.true) c.step_break.ensures)

pub returns-then-kind-eq2 : goal.returns-then-kind-eq2
unfolding start_at
returns-then-kind-eq2 c = rw (← c.mode_in-within.ensures)
    (rw (← c.kind_of-kind.ensures, ne_eqb _ 1 c.if-kind-eq1.false, eq-eqb _ 2 c.if-kind-eq2.true)
    c.step_language.ensures)

pub returns : goal.returns
unfolding start_at
returns c = rw (← c.mode_in-within.ensures)
    (rw (← c.kind_of-kind.ensures, ne_eqb _ 1 c.if-kind-eq1.false, ne_eqb _ 2 c.if-kind-eq2.false)
    c.step_other.ensures)
