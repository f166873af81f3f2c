use lib.ListN.{length}
use native.Mathlib.Omega.{arith}
use borrow.Author.Tests.{eq-eqb, ne_eqb, le-leb, lt-leb}
use Rattle.prologs.specs.rule.Told.{closed_string}
use Rattle.prologs.proofs.find_close.Goals as goal

pub returns-then-d-k : goal.returns-then-d-k
unfolding closed_string
returns-then-d-k c = rw (le-leb (length c.args.d.now) c.args.k (omega arith))

pub returns-then-d-k-2 : goal.returns-then-d-k-2
unfolding closed_string
returns-then-d-k-2 c = rw (
  lt-leb (length c.args.d.now) c.args.k (omega arith),
  eq-eqb _ _ c.if-d-k-2.true,
)

pub returns : goal.returns
unfolding closed_string
returns c = rw (
  lt-leb (length c.args.d.now) c.args.k (omega arith),
  ne_eqb _ _ c.if-d-k-2.false,
)
