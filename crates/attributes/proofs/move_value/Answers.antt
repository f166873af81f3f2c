use mathlib.Core.Path.{sym, ◌∙◌}
use lib.ListN.{length}
use native.Mathlib.Omega.{arith}
use borrow.Author.Tests.{eq-eqb, ne_eqb, le-leb, lt-leb}
use Rattle.attributes.specs.rule.Attribute.{value_move}
use Rattle.attributes.proofs.move_value.Goals as goal

pub returns-then-d-at : goal.returns-then-d-at
unfolding value_move
returns-then-d-at c = rw (
  le-leb (length c.args.d.now) c.args.at (omega arith),
  c.end_fault.ensures,
)

pub returns-then-b-quote : goal.returns-then-b-quote
unfolding value_move
returns-then-b-quote c = rw (
  lt-leb (length c.args.d.now) c.args.at
      (omega arith),
  eq-eqb _ _ c.if-b-quote.true,
)

pub returns-then-b-eq60 : goal.returns-then-b-eq60
unfolding value_move
returns-then-b-eq60 c = rw (
  lt-leb (length c.args.d.now)
      c.args.at (omega arith),
  ne_eqb _ _ c.if-b-quote.false,
  eq-eqb _ 60 c.if-b-eq60.true,
)

pub returns-in-Some : goal.returns-in-Some
unfolding value_move
returns-in-Some c =
    let args = c.args in
    rw (
      lt-leb (length args.d.now) args.at (omega arith),
      ne_eqb _ _ c.if-b-quote.false,
      ne_eqb _ 60 c.if-b-eq60.false,
      eq-eqb _ 38 c.if-b-eq38.true,
      sym c.reference.ensures ∙ c.in-Some.is,
    )

pub returns-in-None : goal.returns-in-None
unfolding value_move
returns-in-None c =
    let args = c.args in
    rw (
      lt-leb (length args.d.now) args.at (omega arith),
      ne_eqb _ _ c.if-b-quote.false,
      ne_eqb _ 60 c.if-b-eq60.false,
      eq-eqb _ 38 c.if-b-eq38.true,
      sym c.reference.ensures ∙ c.in-None.is,
    )

pub returns : goal.returns
unfolding value_move
returns c =
    let args = c.args in
    rw (
      lt-leb (length args.d.now) args.at (omega arith),
      ne_eqb _ _ c.if-b-quote.false,
      ne_eqb _ 60 c.if-b-eq60.false,
      ne_eqb _ 38 c.if-b-eq38.false,
    )
