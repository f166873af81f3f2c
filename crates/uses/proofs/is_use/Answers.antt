use borrow.Author.Tests.{eq-eqb, ne_eqb}
use Rattle.uses.specs.rule.Uses.{is_use}
use Rattle.uses.proofs.is_use.Goals as goal

pub returns-then-usage-k : goal.returns-then-usage-k
unfolding is_use
returns-then-usage-k c = rw (eq-eqb c.args.usage c.args.k c.if-usage-k.true)

pub returns-else-usage-k : goal.returns-else-usage-k
unfolding is_use
returns-else-usage-k c = rw (ne_eqb c.args.usage c.args.k c.if-usage-k.false)
