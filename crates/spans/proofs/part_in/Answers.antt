use mathlib.Core.Path.{sym, ◌∙◌}
use lib.ListN.{length}
use native.Mathlib.Omega.{arith}
use borrow.Author.Tests.{eq-eqb, ne_eqb, le-leb, lt-leb}
use Rattle.spans.specs.rule.Heard.{part_of}
use Rattle.spans.proofs.part_in.Goals as goal

pub returns-then-s-at : goal.returns-then-s-at
unfolding part_of
returns-then-s-at c = rw (le-leb (length c.args.s.now) c.args.at (omega arith))

pub returns-in-Some : goal.returns-in-Some
unfolding part_of
returns-in-Some c =
    let args = c.args in
    rw (
      lt-leb (length args.s.now) args.at (omega arith),
      eq-eqb _ 38 c.if-b-eq38.true,
      sym c.reference.ensures ∙ c.in-Some.is,
    )

pub returns-in-None : goal.returns-in-None
unfolding part_of
returns-in-None c =
    let args = c.args in
    rw (
      lt-leb (length args.s.now) args.at (omega arith),
      eq-eqb _ 38 c.if-b-eq38.true,
      sym c.reference.ensures ∙ c.in-None.is,
    )

pub returns-then-b-eq60 : goal.returns-then-b-eq60
unfolding part_of
returns-then-b-eq60 c =
    let args = c.args in
    rw (
      lt-leb (length args.s.now) args.at (omega arith),
      ne_eqb _ 38 c.if-b-eq38.false,
      eq-eqb _ 60 c.if-b-eq60.true,
    ) c.comment_in.ensures

pub returns : goal.returns
unfolding part_of
returns c =
    let args = c.args in
    rw (
      lt-leb (length args.s.now) args.at (omega arith),
      ne_eqb _ 38 c.if-b-eq38.false,
      ne_eqb _ 60 c.if-b-eq60.false,
    )
