-- `files::judge_many` meets its contract: the terminator, and then the records.
use mathlib.Core.Path.{◌∙◌}
use native.Mathlib.Omega.{arith}
use Rattle.cuts.specs.Cut.{found_ending}
use Rattle.files.specs.File.{file_found}
use Rattle.files.proofs.judge_many.Goals as goal

pub judge_marked-requires : goal.judge_marked-requires
judge_marked-requires c = record {
  tested = c.requires;
  ending = (found_ending c.terminator_behind-w.ensures, omega arith, λ l. c.low_from-low.ensures.clear);
}

pub returns : goal.returns
returns c = record {
  says = c.judge_marked.ensures ∙ file_found _ c.requires.good c.terminator_behind-w.ensures;
}

pub terminator_behind-w-requires : goal.terminator_behind-w-requires
terminator_behind-w-requires c = c.low_from-low.ensures.clear
