use mathlib.Core.Path.{sym}
use Rattle.scan.proofs.keyword.Goals as goal

pub returns-then-misses : goal.returns-then-misses
returns-then-misses c = sym (c.misses.ensures c.if-misses.true)

pub returns-then-spelled : goal.returns-then-spelled
returns-then-spelled c = sym (c.spelled.ensures c.if-spelled.true)
