use native.Mathlib.Omega.{arith}
use Rattle.prologs.specs.rule.Told.{cut_of}
use Rattle.prologs.proofs.cut_at.Goals as goal

pub overflow_add-n : goal.overflow_add-n
overflow_add-n c = omega (arith, c.requires)

pub returns-then-alone : goal.returns-then-alone
unfolding cut_of
returns-then-alone c = rw c.if-alone.true c.due.ensures

pub returns : goal.returns
unfolding cut_of
returns c = rw c.if-alone.false c.end_fault.ensures
