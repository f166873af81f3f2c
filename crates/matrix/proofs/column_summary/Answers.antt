-- `matrix::column_summary` meets its contract: extended from none.
-- Assumes nothing.
use borrow.Author.Rules.{rules}
use Rattle.summary.specs.rule.Summary.{none_summed, summary_of}
use Rattle.matrix.proofs.column_summary.Goals as goal

pub column_more-requires : goal.column_more-requires
unfolding none_summed
column_more-requires c = rw c.empty.ensures (search rules)

pub returns : goal.returns
unfolding summary_of
returns c = rw (c.column_more.ensures, c.empty.ensures)
