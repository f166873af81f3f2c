-- `zarfolin::zarfolin_import` meets its contract.
use Rattle.zarfolin.proofs.zarfolin_import.Goals as goal

pub returns : goal.returns
returns c = record {
  outcome = _;
  promise = c.import_file.ensures;
  tells = rw (← c.import_cells.ensures) c.tell.ensures;
}
