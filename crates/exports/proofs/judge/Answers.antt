-- `exports::judge` meets its contract: the records of the file, from its start.
use mathlib.Core.Path.{◌∙◌}
use native.Mathlib.Omega.{arith}
use borrow.Author.Rules.{rules}
use Rattle.cuts.specs.Cut.{found_ending}
use Rattle.files.specs.File.{file_found}
use Rattle.exports.proofs.judge.Goals as goal

pub judge_records-requires : goal.judge_records-requires
judge_records-requires c = record {
  tested = c.requires.0;
  ending = (found_ending c.requires.1, omega arith);
  scratch_len_bound = search rules;
}

pub returns-then-h-le16 : goal.returns-then-h-le16
returns-then-h-le16 c =
    c.judge_records.ensures ∙ file_found _ c.requires.0.good c.requires.1

pub judge_records-requires-2 : goal.judge_records-requires-2
judge_records-requires-2 c = record {
  tested = c.requires.0;
  ending = (found_ending c.requires.1, omega arith);
  scratch_len_bound = search rules;
}

pub returns : goal.returns
returns c =
    c.judge_records-2.ensures ∙ file_found _ c.requires.0.good c.requires.1
