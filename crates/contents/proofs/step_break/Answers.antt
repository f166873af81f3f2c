use mathlib.Core.Path.{sym, ◌∙◌}
use Rattle.contents.specs.rule.Step.{break_at}
use Rattle.contents.proofs.Bounds.{bare_on}
use Rattle.contents.proofs.step_break.Goals as goal

pub returns-then-empty : goal.returns-then-empty
unfolding break_at
returns-then-empty c = rw (sym c.read_bare.ensures
    ∙ c.in-Read.is)
    (rw (c.if-empty.true, ← c.first_of-unknown.ensures) c.go_on.ensures)

pub step_pair-requires : goal.step_pair-requires
step_pair-requires c =
    let a = c.args in
    bare_on a.bad a.d.now a.g.next a.e _ _ _ _ c.requires
    (sym c.read_bare.ensures ∙ c.in-Read.is)

pub returns-else-empty : goal.returns-else-empty
unfolding break_at
returns-else-empty c = rw (sym c.read_bare.ensures
    ∙ c.in-Read.is)
    (rw (c.if-empty.false, ← c.first_of-unknown.ensures) c.step_pair.ensures)

pub returns-in-Fault : goal.returns-in-Fault
unfolding break_at
returns-in-Fault c = rw (sym c.read_bare.ensures ∙ c.in-Fault.is)
