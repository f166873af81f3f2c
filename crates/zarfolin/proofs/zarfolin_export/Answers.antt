-- `zarfolin::zarfolin_export` meets its contract.
use borrow.Author.Rules.{sfits_of}
use mir.Facts.{to_z-of_z}
use Rattle.zarfolin.proofs.zarfolin_export.Goals as goal

pub returns : goal.returns
returns c = record {
  outcome = _;
  promise = c.write_export-e.ensures;
  tells = rw (← c.export_cells.ensures, ← c.export_length.ensures)
      (rw (to_z-of_z (sfits_of c.export_length.type_inv)) at c.tell_five.ensures);
}
