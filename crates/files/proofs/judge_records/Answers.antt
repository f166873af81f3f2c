-- `files::judge_records` meets its contract: from the start.
use native.Mathlib.Omega.{arith}
use Rattle.lows.specs.Lows.{clear_none}
use Rattle.files.proofs.judge_records.Goals as goal

pub judge_from-requires : goal.judge_from-requires
judge_from-requires c = record {
  tested = c.requires.tested;
  ending = (c.requires.ending.0, omega (arith, c.requires.ending.1), λ l. clear_none _ _ (omega arith));
  scratch_len_bound = c.requires.scratch_len_bound;
}

pub returns : goal.returns
returns c = c.judge_from.ensures
