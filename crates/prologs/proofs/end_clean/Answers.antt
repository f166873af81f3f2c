use Rattle.prologs.specs.rule.Told.{end_of_file}
use Rattle.prologs.proofs.end_clean.Goals as goal

pub returns-then-bad : goal.returns-then-bad
unfolding end_of_file
returns-then-bad c = rw c.if-bad.true

pub returns : goal.returns
unfolding end_of_file
returns c = rw c.if-bad.false
