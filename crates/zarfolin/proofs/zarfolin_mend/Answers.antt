-- `zarfolin::zarfolin_mend` meets its contract.
use Rattle.zarfolin.proofs.zarfolin_mend.Goals as goal

pub returns : goal.returns
returns c = record {
  outcome = _;
  promise = c.mend.ensures;
  tells = rw (← c.mend_cells.ensures) c.tell.ensures;
}
