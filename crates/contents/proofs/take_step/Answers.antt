use lib.ListN.{length}
use native.Mathlib.Omega.{arith}
use borrow.Author.Tests.{eq-eqb, ne_eqb, le-leb, lt-leb}
use Rattle.contents.specs.rule.Step.{step_of}
use Rattle.contents.proofs.take_step.Goals as goal

pub returns-then-d-at : goal.returns-then-d-at
unfolding step_of
returns-then-d-at c = rw (le-leb (length c.args.d.now) c.args.g.next
    (omega arith)) c.broken.ensures

pub returns-then-b-eq60 : goal.returns-then-b-eq60
unfolding step_of
returns-then-b-eq60 c =
    let args = c.args in
    rw (
      lt-leb (length args.d.now) args.g.next (omega arith),
      eq-eqb _ 60 c.if-b-eq60.true,
    ) c.step_mark.ensures

pub returns-then-b-eq38 : goal.returns-then-b-eq38
unfolding step_of
returns-then-b-eq38 c =
    let args = c.args in
    rw (
      lt-leb (length args.d.now) args.g.next (omega arith),
      ne_eqb _ 60 c.if-b-eq60.false,
      eq-eqb _ 38 c.if-b-eq38.true,
    ) c.step_refer.ensures

pub returns-then-b-eq93 : goal.returns-then-b-eq93
unfolding step_of
returns-then-b-eq93 c =
    let args = c.args in
    rw (
      lt-leb (length args.d.now) args.g.next (omega arith),
      ne_eqb _ 60 c.if-b-eq60.false,
      ne_eqb _ 38 c.if-b-eq38.false,
      eq-eqb _ 93 c.if-b-eq93.true,
    ) c.step_bracket.ensures

pub returns-then-b-eq13 : goal.returns-then-b-eq13
unfolding step_of
returns-then-b-eq13 c =
    let args = c.args in
    rw (
      lt-leb (length args.d.now) args.g.next (omega arith),
      ne_eqb _ 60 c.if-b-eq60.false,
      ne_eqb _ 38 c.if-b-eq38.false,
      ne_eqb _ 93 c.if-b-eq93.false,
      eq-eqb _ 13 c.if-b-eq13.true,
    ) c.step_return.ensures

pub returns : goal.returns
unfolding step_of
returns c =
    let args = c.args in
    rw (
      lt-leb (length args.d.now) args.g.next (omega arith),
      ne_eqb _ 60 c.if-b-eq60.false,
      ne_eqb _ 38 c.if-b-eq38.false,
      ne_eqb _ 93 c.if-b-eq93.false,
      ne_eqb _ 13 c.if-b-eq13.false,
    ) c.go_on.ensures
