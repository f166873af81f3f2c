-- `zarfolin::zarfolin_next_record` meets its contract.
use Rattle.zarfolin.proofs.zarfolin_next_record.Goals as goal

pub returns : goal.returns
returns c = record {
  outcome = _;
  promise = c.next_record.ensures;
  tells = rw (← c.next_cells.ensures)
      c.tell.ensures;
}
