-- `columns::bits_reach` meets its contract, case by case.
-- Assumes nothing.
use borrow.Author.Tests.{lt-ltb, le-ltb}
use Rattle.columns.specs.Reach.{bits_reach}
use Rattle.columns.proofs.bits_reach.Goals as goal

pub returns-then-w-lt9999 : goal.returns-then-w-lt9999
unfolding bits_reach
returns-then-w-lt9999 c = rw (lt-ltb c.args.w 9999 c.if-w-lt9999.true)

pub returns : goal.returns
unfolding bits_reach
returns c = rw (le-ltb c.args.w 9999 c.if-w-lt9999.false)
