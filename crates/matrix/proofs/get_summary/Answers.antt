-- `matrix::get_summary` meets its contract: three numbers, one behind the other.
-- Assumes nothing.
use Rattle.matrix.proofs.get_summary.Goals as goal

pub returns : goal.returns
returns c = rw (c.get_f64-most.ensures, c.get_f64-least.ensures, c.get_u64-count.ensures)
