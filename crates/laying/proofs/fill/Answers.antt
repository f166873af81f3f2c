use Rattle.laying.specs.Code.{filled_in, filled_over}
use borrow.Author.Tests.{lt-ltb, le-ltb}
use Rattle.laying.proofs.fill.Goals as goal

pub returns-then-table-base : goal.returns-then-table-base
unfolding filled_in filled_over
returns-then-table-base c =
    let e = lt-ltb _ _ (rw c.base.ensures at c.if-table-base.true) in record {
      value = rw e;
      table_after = rw e;
    }

pub returns : goal.returns
unfolding filled_in filled_over
returns c =
    let e = le-ltb _ _ (rw c.base.ensures at c.if-table-base.false) in record {
      value = rw e;
      table_after = rw e c.lay.ensures;
    }
