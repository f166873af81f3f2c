use mathlib.Core.Path.{sym, ◌∙◌}
use lib.ListN.{length}
use native.Mathlib.Omega.{arith}
use borrow.Author.Tests.{eq-eqb, ne_eqb, le-leb, lt-leb}
use Rattle.pairs.specs.rule.Stand.{stand_at}
use Rattle.pairs.proofs.stand_at.Goals as goal

pub returns-then-d-n : goal.returns-then-d-n
unfolding stand_at
returns-then-d-n c = rw (le-leb (length c.args.d.now) c.args.n (omega arith))

pub returns-in-Start : goal.returns-in-Start
unfolding stand_at
returns-in-Start c =
    let args = c.args in
    rw (
      lt-leb (length args.d.now) args.n (omega arith),
      eq-eqb _ 60 c.if-d-n-eq60.true,
      sym c.read_angle.ensures ∙ c.in-Start.is,
    )

pub returns-in-Close : goal.returns-in-Close
unfolding stand_at
returns-in-Close c =
    let args = c.args in
    rw (
      lt-leb (length args.d.now) args.n (omega arith),
      eq-eqb _ 60 c.if-d-n-eq60.true,
      sym c.read_angle.ensures ∙ c.in-Close.is,
    )

pub returns-in-Foreign : goal.returns-in-Foreign
unfolding stand_at
returns-in-Foreign c =
    let args = c.args in
    rw (
      lt-leb (length args.d.now) args.n (omega arith),
      eq-eqb _ 60 c.if-d-n-eq60.true,
      sym c.read_angle.ensures ∙ c.in-Foreign.is,
    )

pub returns-in-Broken : goal.returns-in-Broken
unfolding stand_at
returns-in-Broken c =
    let args = c.args in
    rw (
      lt-leb (length args.d.now) args.n (omega arith),
      eq-eqb _ 60 c.if-d-n-eq60.true,
      sym c.read_angle.ensures ∙ c.in-Broken.is,
    )

pub returns : goal.returns
unfolding stand_at
returns c = rw (
  lt-leb (length c.args.d.now)
      c.args.n (omega arith),
  ne_eqb _ 60 c.if-d-n-eq60.false,
) c.stand_text.ensures
