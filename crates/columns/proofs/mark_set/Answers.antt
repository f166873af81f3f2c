-- `columns::mark_set` meets its contract: the row's range, and the marks behind it up to the first that is not set.
-- Assumes nothing.
use Rattle.columns.specs.Room.{marks_few}
use Rattle.columns.specs.Ones.{range_marked, marked_then}
use Rattle.columns.specs.Rows.{covered_as}
use Rattle.columns.proofs.mark_set.Goals as goal

pub range_past-past-requires : goal.range_past-past-requires
range_past-past-requires c =
    marks_few c.count_categories-count.auto.allowed c.requires.covered.some c.requires.covered.few

pub pass_marked-gap-requires : goal.pass_marked-gap-requires
pass_marked-gap-requires c = c.range_past-past.ensures.within

pub returns : goal.returns
returns c =
    let a = c.args in
    let counted = c.count_categories-count in
    record {
      covered = covered_as counted.auto.allowed c.requires.covered;
      marks = counted.ensures.1;
      run = marked_then (range_marked a.t.now a.rows a.row _ counted.ensures.1 c.range_past-past.ensures)
          c.pass_marked-gap.ensures;
      many = counted.ensures.0;
    }
