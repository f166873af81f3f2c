use native.Mathlib.Omega.{arith}
use Rattle.sheets.proofs.enter.Goals as goal

pub overflow_mul-y : goal.overflow_mul-y
overflow_mul-y c = omega (arith, c.requires.rows_lt_most_rows.0)

pub put_row-requires : goal.put_row-requires
put_row-requires c = (
  rw c.used-columns.ensures c.requires.small_row,
  omega (arith, c.requires.rows_lt_most_rows.0, c.requires.rows_lt_most_rows.1),
)

pub tally_with-tally-requires : goal.tally_with-tally-requires
tally_with-tally-requires c = c.requires.rows_lt_most_rows.0

pub returns : goal.returns
returns c = record {
  value = rw (c.tally_with-tally.ensures, c.used-columns.ensures);
  rows_after = rw (← c.used-columns.ensures) c.put_row.ensures;
}
