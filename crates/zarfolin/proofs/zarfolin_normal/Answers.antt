-- `zarfolin::zarfolin_normal` meets its contract.
use Rattle.zarfolin.proofs.zarfolin_normal.Goals as goal

pub returns : goal.returns
returns c = record {
  outcome = _;
  promise = c.normalise.ensures;
  tells = rw (← c.normal_cells.ensures) c.tell.ensures;
}
