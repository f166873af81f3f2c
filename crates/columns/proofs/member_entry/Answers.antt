-- `columns::member_entry` meets its contract, case by case.
-- Assumes nothing.
use borrow.Author.Tests.{eq-eqb, ne_eqb}
use Rattle.columns.specs.Marked.{marked_entry}
use Rattle.columns.proofs.member_entry.Goals as goal

pub returns-then-mark-eq1 : goal.returns-then-mark-eq1
unfolding marked_entry
returns-then-mark-eq1 c = rw (c.if-there.true, eq-eqb c.args.mark 1 c.if-mark-eq1.true)

pub returns-then-there : goal.returns-then-there
unfolding marked_entry
returns-then-there c = rw (c.if-there.true, ne_eqb c.args.mark 1 c.if-mark-eq1.false)

pub returns : goal.returns
unfolding marked_entry
returns c = rw c.if-there.false
