use lib.ListN.{length}
use native.Mathlib.Omega.{arith}
use borrow.Author.Tests.{le-leb, lt-leb}
use Rattle.prologs.specs.rule.Told.{due_of}
use Rattle.prologs.proofs.due.Goals as goal

pub returns-then-d-n : goal.returns-then-d-n
unfolding due_of
returns-then-d-n c = rw (
  le-leb (length c.args.d.now) c.args.n (omega arith),
  c.end_fault.ensures,
)

pub returns : goal.returns
unfolding due_of
returns c = rw (lt-leb (length c.args.d.now) c.args.n (omega arith))
