use mathlib.Core.Path.{sym, ◌∙◌}
use native.Mathlib.Nat.{add-zero, sub-zero}
use Rattle.faults.proofs.Laws.{failing_here, failing_on, failing_none}
use Rattle.faults.proofs.first_failing.Goals as goal

pub loop-i-init : goal.loop-i-init
loop-i-init c = rw (add-zero, sub-zero)

pub returns-then-not-byte_passes : goal.returns-then-not-byte_passes
returns-then-not-byte_passes c = sym (failing_here _ _ _ _ _ c.loop-i-test.true
    (sym c.byte_passes.ensures ∙ c.if-not-byte_passes.true)) ∙ c.loop-i.invariant

pub loop-i-preserved : goal.loop-i-preserved
loop-i-preserved c = sym (failing_on _ _ _ _ _ c.loop-i-test.true
    (sym c.byte_passes.ensures ∙ c.if-not-byte_passes.false)) ∙ c.loop-i.invariant

pub returns : goal.returns
returns c = sym (failing_none _ _ _ _ _ c.loop-i-test.false) ∙ c.loop-i.invariant
