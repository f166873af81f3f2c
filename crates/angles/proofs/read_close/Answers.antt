use mathlib.Core.Path.{sym, ◌∙◌}
use Prim.Native.Nat.{◌+◌}
use lib.ListN.{length}
use native.Mathlib.Omega.{arith}
use borrow.Author.Tests.{le-leb, lt-leb}
use Rattle.angles.specs.rule.Angle.{close_of}
use Rattle.angles.proofs.read_close.Goals as goal

pub returns-then-d-n : goal.returns-then-d-n
unfolding close_of
returns-then-d-n c = rw (
  le-leb (length c.args.d.now) (c.args.at + 2) (omega arith),
  c.end_fault.ensures,
)

pub returns-then-starts_name : goal.returns-then-starts_name
unfolding close_of
returns-then-starts_name c =
    let args = c.args in
    rw (
      lt-leb (length args.d.now) (args.at + 2) (omega arith),
      sym c.starts_name.ensures ∙ c.if-starts_name.true,
      c.run.ensures.0,
    )

pub returns : goal.returns
unfolding close_of
returns c = rw (
  lt-leb (length c.args.d.now)
      (c.args.at + 2) (omega arith),
  sym c.starts_name.ensures ∙ c.if-starts_name.false,
)
