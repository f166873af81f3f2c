-- `matrices::columns_of` meets its contract.
-- Assumes nothing.
use Rattle.files.specs.Tested.{tested_rows}
use Rattle.matrices.proofs.columns_of.Goals as goal

pub returns : goal.returns
returns c = rw (tested_rows c.requires) at c.count_columns.ensures
