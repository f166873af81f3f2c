use mathlib.Core.Path.{◌∙◌}
use native.Mathlib.Omega.{arith}
use borrow.Author.Tests.{ne_eqb}
use lib.ListN.{drop_of_length-le}
use Rattle.utf.proofs.Strides.{drop_1}
use Rattle.markup.specs.rule.Bytes.{stands}
use Rattle.markup.specs.rule.Reference.{named_character}
use Rattle.markup.proofs.named.Goals as goal

pub returns-then-d-at : goal.returns-then-d-at
unfolding named_character stands
returns-then-d-at c = rw (drop_of_length-le c.args.d.now c.if-d-at.true)

pub returns-then-b-eq97 : goal.returns-then-b-eq97
unfolding named_character stands
returns-then-b-eq97 c =
    let a = c.args in
    let e = drop_1 a.d.now a.at (omega arith) in
    c.with_a.ensures ∙ rw (e, c.if-b-eq97.true)

pub returns-then-b-eq108 : goal.returns-then-b-eq108
unfolding named_character stands
returns-then-b-eq108 c =
    let a = c.args in
    let e = drop_1 a.d.now a.at (omega arith) in
    c.if_there.ensures ∙ rw (e, c.if-b-eq108.true)

pub returns-then-b-eq103 : goal.returns-then-b-eq103
unfolding named_character stands
returns-then-b-eq103 c =
    let a = c.args in
    let e = drop_1 a.d.now a.at (omega arith) in
    c.if_there-then-b-eq103.ensures ∙ rw (e, c.if-b-eq103.true)

pub returns-then-b-eq113 : goal.returns-then-b-eq113
unfolding named_character stands
returns-then-b-eq113 c =
    let a = c.args in
    let e = drop_1 a.d.now a.at (omega arith) in
    c.if_there-then-b-eq113.ensures ∙ rw (e, c.if-b-eq113.true)

pub returns : goal.returns
unfolding named_character stands
returns c =
    let a = c.args in
    rw (
      drop_1 a.d.now a.at (omega arith),
      ne_eqb _ 97 c.if-b-eq97.false,
      ne_eqb _ 108 c.if-b-eq108.false,
      ne_eqb _ 103 c.if-b-eq103.false,
      ne_eqb _ 113 c.if-b-eq113.false,
    )
