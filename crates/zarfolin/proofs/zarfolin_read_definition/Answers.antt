-- `zarfolin::zarfolin_read_definition` meets its contract.
use Rattle.zarfolin.proofs.zarfolin_read_definition.Goals as goal

pub returns : goal.returns
returns c =
    record {
      outcome = _;
      promise = c.read_definition.ensures;
      tells = rw (← c.definition_cells.ensures) c.tell.ensures;
    }
