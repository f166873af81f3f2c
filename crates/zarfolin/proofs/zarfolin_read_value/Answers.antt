-- `zarfolin::zarfolin_read_value` meets its contract.
use Rattle.zarfolin.proofs.zarfolin_read_value.Goals as goal

pub returns : goal.returns
returns c = record {
  outcome = _;
  promise = c.read_value.ensures;
  tells = rw (← c.outcome_cells.ensures) c.tell.ensures;
}
