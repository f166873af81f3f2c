-- `summary::extend` meets its contract.
-- Assumes nothing.
use borrow.Author.Tests.{eq-eqb, ne_eqb}
use Rattle.summary.specs.rule.Summary.{extend_of}
use Rattle.summary.proofs.extend.Goals as goal

pub returns-then-s-eq0 : goal.returns-then-s-eq0
unfolding extend_of
returns-then-s-eq0 c = rw (eq-eqb c.args.s.count 0 c.if-s-eq0.true)

pub returns : goal.returns
unfolding extend_of
returns c =
    rw (
      ne_eqb c.args.s.count 0 c.if-s-eq0.false,
      c.lower-least.ensures,
      c.higher-most.ensures,
    )
