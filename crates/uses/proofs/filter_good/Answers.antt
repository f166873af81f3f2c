use native.Mathlib.Omega.{arith}
use borrow.Author.Tests.{eq-eqb, ne_eqb, le-leb, lt-leb}
use Rattle.uses.specs.rule.Uses.{filter_good}
use Rattle.uses.proofs.filter_good.Goals as goal

pub returns-then-filter-eq0 : goal.returns-then-filter-eq0
unfolding filter_good
returns-then-filter-eq0 c = rw (eq-eqb _ 0 c.if-filter-eq0.true)

pub returns-then-i-filter : goal.returns-then-i-filter
unfolding filter_good
returns-then-i-filter c = rw (ne_eqb _ 0 c.if-filter-eq0.false, lt-leb _ _ c.if-i-filter.true)

pub read-requires : goal.read-requires
read-requires c = rw c.base.ensures (omega arith)

pub returns : goal.returns
unfolding filter_good
returns c = rw (
  ne_eqb _ 0 c.if-filter-eq0.false,
  le-leb _ _ c.if-i-filter.false,
  c.read.ensures,
  c.base.ensures,
)
