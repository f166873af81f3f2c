-- `zarfolin::zarfolin_read_record` meets its contract.
use Rattle.zarfolin.proofs.zarfolin_read_record.Goals as goal

pub returns : goal.returns
returns c = record {
  outcome = _;
  promise = c.read_record.ensures;
  tells = rw (← c.whole_cells.ensures) c.tell.ensures;
}
