-- `zarfolin::zarfolin_matrix` meets its contract.
use Rattle.zarfolin.proofs.zarfolin_matrix.Goals as goal

pub returns : goal.returns
returns c = record {
  outcome = _;
  promise = c.write_matrix.ensures;
  tells = rw (← c.matrix_cells.ensures) c.tell.ensures;
}
