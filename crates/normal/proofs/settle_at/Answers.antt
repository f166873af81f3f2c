-- `normal::settle_at` meets its contract: a row that stays, or one that is settled.
use Rattle.normal.proofs.Steps.{stays_back}
use Rattle.normal.proofs.settle_at.Goals as goal

pub returns-then-row_stays : goal.returns-then-row_stays
returns-then-row_stays c = stays_back _ _ _ _ c.row_stays.ensures c.if-row_stays.true

pub settle_row-requires : goal.settle_row-requires
settle_row-requires c = let p = c.requires in record {
  tens = p.tens;
  settles = rw c.read.ensures p.settles;
}

pub returns : goal.returns
returns c = rw c.read.ensures at c.settle_row.ensures

pub row_stays-requires : goal.row_stays-requires
row_stays-requires c = c.requires.i_le_most_rows

pub read-requires : goal.read-requires
read-requires c = c.requires.i_le_most_rows
