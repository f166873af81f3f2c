use lib.ListN.{length}
use native.Mathlib.Omega.{arith}
use borrow.Author.Tests.{le-leb, lt-leb}
use Rattle.prologs.specs.rule.Told.{quoted_string}
use Rattle.prologs.proofs.quoted.Goals as goal

pub returns-then-d-n : goal.returns-then-d-n
unfolding quoted_string
returns-then-d-n c = rw (
  le-leb (length c.args.d.now) c.args.n (omega arith),
  c.end_fault.ensures,
)

pub returns-then-q : goal.returns-then-q
unfolding quoted_string
returns-then-q c =
    let args = c.args in
    rw (
      lt-leb (length args.d.now) args.n (omega arith),
      c.if-q.true,
      ← c.run_inside-k.ensures.0,
      ← c.cut_at-cut.ensures,
    ) c.find_close.ensures

pub returns : goal.returns
unfolding quoted_string
returns c = rw (
  lt-leb (length c.args.d.now) c.args.n
      (omega arith),
  c.if-q.false,
)
