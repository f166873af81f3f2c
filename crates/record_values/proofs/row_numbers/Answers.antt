-- `record_values::row_numbers` meets its contract: by what the row says.
use Rattle.record_values.proofs.row_numbers.Goals as goal

pub with_fault-requires : goal.with_fault-requires
with_fault-requires c = c.requires

pub returns : goal.returns
returns c = rw (c.four.ensures, c.with_fault.ensures)
