-- `files::judge_marked` meets its contract: with room for the marks.
use borrow.Author.Rules.{rules}
use Rattle.files.proofs.judge_marked.Goals as goal

pub judge_from-requires : goal.judge_from-requires
judge_from-requires c = record {
  tested = c.requires.tested;
  ending = c.requires.ending;
  scratch_len_bound = search rules;
}

pub returns : goal.returns
returns c = c.judge_from.ensures
