use native.Mathlib.Omega.{arith}
use borrow.Author.Tests.{eq-eqb, ne_eqb}
use Rattle.xml_reading.specs.rule.Role.{use_at}
use Rattle.filters.proofs.use_at.Goals as goal

pub returns-then-v-eq0 : goal.returns-then-v-eq0
unfolding use_at
returns-then-v-eq0 c = rw (eq-eqb c.args.v 0 c.if-v-eq0.true)

pub slice_bounds-use_in-count : goal.slice_bounds-use_in-count
slice_bounds-use_in-count c = let h = c.requires c.if-v-eq0.false in omega (arith, h.0)

pub slice_bounds-use_in-start : goal.slice_bounds-use_in-start
slice_bounds-use_in-start c = let h = c.requires c.if-v-eq0.false in omega (arith, h.0, h.1)

pub slice_bounds-use_in-end : goal.slice_bounds-use_in-end
slice_bounds-use_in-end c = let h = c.requires c.if-v-eq0.false in omega (arith, h.0, h.1)

pub returns : goal.returns
unfolding use_at
returns c = rw (ne_eqb c.args.v 0 c.if-v-eq0.false) c.use_in.ensures
