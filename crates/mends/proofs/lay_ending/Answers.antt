-- `mends::lay_ending` meets its contract.
use native.Mathlib.Omega.{arith}
use native.Mathlib.Numerals.{add-one}
use borrow.Author.Tests.{eq-eqb, ne_eqb}
use lib.ListN.{length-set}
use Rattle.cuts.specs.rule.Records.{terminator_bytes}
use Rattle.mends.proofs.lay_ending.Goals as goal

pub bounds-out-at-then-e-eq2 : goal.bounds-out-at-then-e-eq2
bounds-out-at-then-e-eq2 c = simp length-set (omega (arith, c.if-e-eq2.true))

pub returns-then-e-eq2 : goal.returns-then-e-eq2
unfolding terminator_bytes
returns-then-e-eq2 c =
    let a = c.args in record {
      stored = rw (eq-eqb _ _ c.if-e-eq2.true, add-one a.at);
      next = rw (eq-eqb _ _ c.if-e-eq2.true) (omega (arith, c.if-e-eq2.true));
    }

pub returns-else-e-eq2 : goal.returns-else-e-eq2
unfolding terminator_bytes
returns-else-e-eq2 c = record {
  stored = rw (ne_eqb _ _ c.if-e-eq2.false);
  next = rw (ne_eqb _ _ c.if-e-eq2.false) (omega (arith, c.if-e-eq2.false, c.requires.sized.some, c.requires.sized.few));
}
