-- `zarfolin::zarfolin_decode_text` meets its contract.
use Rattle.zarfolin.proofs.zarfolin_decode_text.Goals as goal

pub returns : goal.returns
returns c = record {
  outcome = _;
  promise = c.decode_text.ensures;
  tells = rw (← c.text_cells.ensures) c.tell.ensures;
}
