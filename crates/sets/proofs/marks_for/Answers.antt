-- `sets::marks_for` meets its contract: by the numbers of w digits.
use Rattle.sets.proofs.marks_for.Goals as goal

pub reach-requires : goal.reach-requires
reach-requires c = c.requires.1

pub marks_worth-requires : goal.marks_worth-requires
marks_worth-requires c = record {
  lines_bound = c.requires.0;
  tests_bound = c.requires.2;
}
