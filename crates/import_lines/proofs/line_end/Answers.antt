-- `import_lines::line_end` meets its contract.
use borrow.Author.Tests.{eq-eqb, ne_eqb}
use Rattle.import_lines.specs.Walk.{end_of}
use Rattle.import_lines.proofs.line_end.Goals as goal

pub returns-then-count-rows : goal.returns-then-count-rows
unfolding end_of
returns-then-count-rows c = rw (ne_eqb _ _ c.if-count-rows.true, c.lesser.ensures)

pub returns-then-bad-ne0 : goal.returns-then-bad-ne0
unfolding end_of
returns-then-bad-ne0 c = rw (eq-eqb _ _ c.if-count-rows.false, ne_eqb _ _ c.if-bad-ne0.true)

pub returns : goal.returns
unfolding end_of
returns c = rw (eq-eqb _ _ c.if-count-rows.false, eq-eqb _ _ c.if-bad-ne0.false)
