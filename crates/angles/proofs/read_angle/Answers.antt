use mathlib.Core.Path.{sym, ◌∙◌}
use Prim.Native.Nat.{◌+◌}
use lib.ListN.{length}
use native.Mathlib.Omega.{arith}
use borrow.Author.Tests.{eq-eqb, ne_eqb, le-leb, lt-leb}
use Rattle.angles.specs.rule.Angle.{angle_of}
use Rattle.angles.proofs.read_angle.Goals as goal

pub returns-then-d-n : goal.returns-then-d-n
unfolding angle_of
returns-then-d-n c = rw (
  le-leb (length c.args.d.now) (c.args.at + 1) (omega arith),
  c.end_fault.ensures,
)

pub returns-then-b-eq47 : goal.returns-then-b-eq47
unfolding angle_of
returns-then-b-eq47 c = rw (
  lt-leb (length c.args.d.now)
      (c.args.at + 1) (omega arith),
  eq-eqb _ 47 c.if-b-eq47.true,
) c.read_close.ensures

pub returns-then-b-eq63 : goal.returns-then-b-eq63
unfolding angle_of
returns-then-b-eq63 c = rw (
  lt-leb (length c.args.d.now)
      (c.args.at + 1) (omega arith),
  ne_eqb _ 47 c.if-b-eq47.false,
  eq-eqb _ 63 c.if-b-eq63.true,
)

pub returns-then-b-eq33 : goal.returns-then-b-eq33
unfolding angle_of
returns-then-b-eq33 c =
    let args = c.args in
    rw (
      lt-leb (length args.d.now) (args.at + 1) (omega arith),
      ne_eqb _ 47 c.if-b-eq47.false,
      ne_eqb _ 63 c.if-b-eq63.false,
      eq-eqb _ 33 c.if-b-eq33.true,
    ) c.read_bang.ensures

pub returns-then-starts_name : goal.returns-then-starts_name
unfolding angle_of
returns-then-starts_name c =
    let args = c.args in
    rw (
      lt-leb (length args.d.now) (args.at + 1) (omega arith),
      ne_eqb _ 47 c.if-b-eq47.false,
      ne_eqb _ 63 c.if-b-eq63.false,
      ne_eqb _ 33 c.if-b-eq33.false,
      sym c.starts_name.ensures ∙ c.if-starts_name.true,
      c.run.ensures.0,
    )

pub returns : goal.returns
unfolding angle_of
returns c =
    let args = c.args in
    rw (
      lt-leb (length args.d.now) (args.at + 1) (omega arith),
      ne_eqb _ 47 c.if-b-eq47.false,
      ne_eqb _ 63 c.if-b-eq63.false,
      ne_eqb _ 33 c.if-b-eq33.false,
      sym c.starts_name.ensures ∙ c.if-starts_name.false,
    )
