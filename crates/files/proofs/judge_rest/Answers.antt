-- `files::judge_rest` meets its contract: behind one record.
use native.Mathlib.Omega.{arith}
use borrow.Author.Rules.{rules}
use Rattle.lows.specs.Lows.{clear_none}
use Rattle.files.proofs.judge_rest.Goals as goal

pub judge_marked-requires : goal.judge_marked-requires
judge_marked-requires c = record {
  tested = c.requires.tested;
  ending = (c.requires.ending, omega arith, λ l. clear_none _ _ (omega arith));
}

pub judge_from-requires : goal.judge_from-requires
judge_from-requires c = record {
  tested = c.requires.tested;
  ending = (c.requires.ending, omega arith, λ l. clear_none _ _ (omega arith));
  scratch_len_bound = search rules;
}

pub returns-then-h-gt16 : goal.returns-then-h-gt16
returns-then-h-gt16 c = c.judge_marked.ensures

pub returns : goal.returns
returns c = c.judge_from.ensures
