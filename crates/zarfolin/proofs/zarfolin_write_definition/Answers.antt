-- `zarfolin::zarfolin_write_definition` meets its contract.
use Rattle.zarfolin.proofs.zarfolin_write_definition.Goals as goal

pub returns : goal.returns
returns c = record {
  outcome = _;
  promise = c.write_definition.ensures;
  tells = rw (← c.clean_cells.ensures) c.tell.ensures;
}
