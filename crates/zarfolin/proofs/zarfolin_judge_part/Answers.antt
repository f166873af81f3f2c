-- `zarfolin::zarfolin_judge_part` meets its contract.
use Rattle.zarfolin.proofs.zarfolin_judge_part.Goals as goal

pub returns : goal.returns
returns c = record {
  outcome = _;
  promise = c.judge_part.ensures;
  tells = rw (← c.part_cells.ensures)
      c.tell.ensures;
}
