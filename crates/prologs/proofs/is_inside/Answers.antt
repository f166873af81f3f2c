use borrow.Author.Tests.{eq-eqb, ne_eqb}
use Rattle.prologs.specs.rule.Told.{between_quotes}
use Rattle.prologs.proofs.is_inside.Goals as goal

pub returns-then-b-quote : goal.returns-then-b-quote
unfolding between_quotes
returns-then-b-quote c = rw (eq-eqb _ _ c.if-b-quote.true)

pub returns-then-public : goal.returns-then-public
unfolding between_quotes
returns-then-public c = rw (ne_eqb _ _ c.if-b-quote.false, c.if-public.true) c.is_public.ensures

pub returns : goal.returns
unfolding between_quotes
returns c = rw (ne_eqb _ _ c.if-b-quote.false, c.if-public.false)
