-- `little::get_f64` meets its contract.
-- Assumes nothing.
use Rattle.little.proofs.get_f64.Goals as goal

pub float_from_bits-result : goal.float_from_bits-result
float_from_bits-result c = rw c.get_number.ensures c.requires.t

pub returns : goal.returns
returns c = rw c.get_number.ensures
