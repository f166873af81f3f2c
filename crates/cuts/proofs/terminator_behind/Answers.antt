use native.Mathlib.Omega.{arith}
use mathlib.Core.Path.{sym, ◌∙◌}
use Rattle.cuts.specs.Cut.{at_few, found_cr, found_lf, found_on, found_none, found_clear}
use Rattle.cuts.proofs.terminator_behind.Goals as goal

pub loop-i-init : goal.loop-i-init
loop-i-init c = found_clear _ _ c.requires

pub returns-then-b-eq13 : goal.returns-then-b-eq13
returns-then-b-eq13 c = record {
  is = c.terminator_at.ensures ∙ sym (c.loop-i.invariant
      ∙ found_cr _ _ c.loop-i-test.true c.if-b-eq13.true);
  few = rw c.terminator_at.ensures (at_few _ _ _);
}

pub returns-then-b-eq10 : goal.returns-then-b-eq10
returns-then-b-eq10 c = record {
  is = c.terminator_at-then-b-eq10.ensures ∙ sym (c.loop-i.invariant
      ∙ found_lf _ _ c.loop-i-test.true c.if-b-eq13.false c.if-b-eq10.true);
  few = rw c.terminator_at-then-b-eq10.ensures (at_few _ _ _);
}

pub loop-i-preserved : goal.loop-i-preserved
loop-i-preserved c = c.loop-i.invariant
    ∙ found_on _ _ c.loop-i-test.true c.if-b-eq13.false c.if-b-eq10.false

pub returns : goal.returns
returns c = record { is = sym (c.loop-i.invariant ∙ found_none _ _ c.loop-i-test.false); few = omega arith }
