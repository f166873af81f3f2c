-- `zarfolin::zarfolin_judge_record` meets its contract.
use Rattle.zarfolin.proofs.zarfolin_judge_record.Goals as goal

pub returns : goal.returns
returns c = record {
  outcome = _;
  promise = c.judge_record.ensures;
  tells = rw (← c.verdict_cells.ensures)
      c.tell.ensures;
}
