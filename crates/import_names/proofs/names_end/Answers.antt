-- `import_names::names_end` meets its contract, case by case.
use borrow.Author.Tests.{eq-eqb, ne_eqb, lt-ltb, le-ltb}
use Rattle.import_names.specs.Names.{names_end}
use Rattle.import_names.proofs.names_end.Goals as goal

pub returns-then-bad-ne0 : goal.returns-then-bad-ne0
unfolding names_end
returns-then-bad-ne0 c = rw (ne_eqb _ _ c.if-bad-ne0.true)

pub returns-then-count-rows : goal.returns-then-count-rows
unfolding names_end
returns-then-count-rows c = rw (eq-eqb _ _ c.if-bad-ne0.false, lt-ltb _ _ c.if-count-rows.true)

pub returns : goal.returns
unfolding names_end
returns c = rw (eq-eqb _ _ c.if-bad-ne0.false, le-ltb _ _ c.if-count-rows.false)
