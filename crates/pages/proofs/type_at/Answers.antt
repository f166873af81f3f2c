use mathlib.Core.Path.{sym}
use native.Mathlib.Omega.{arith}
use Rattle.looks.specs.Stand.{stands_end}
use Rattle.pages.specs.Stand.{type_one, type_two, type_three, type_four, type_five}
use Rattle.pages.proofs.type_at.Goals as goal

pub returns-then-one-gt0 : goal.returns-then-one-gt0
returns-then-one-gt0 c = sym (type_one _ _ c.pass_blanks-g.ensures.0 (c.stands_to-one.ensures c.if-one-gt0.true))

pub returns-then-two-gt0 : goal.returns-then-two-gt0
returns-then-two-gt0 c = sym (type_two _ _ c.pass_blanks-g.ensures.0
    (c.stands_to-two.ensures c.if-two-gt0.true))

pub returns-then-three-gt0 : goal.returns-then-three-gt0
returns-then-three-gt0 c = sym (type_three _ _ c.pass_blanks-g.ensures.0
    (c.stands_to-three.ensures c.if-three-gt0.true))

pub returns-then-four-gt0 : goal.returns-then-four-gt0
returns-then-four-gt0 c = sym
    (type_four _ _
    c.pass_blanks-g.ensures.0
    (c.stands_to-four.ensures c.if-four-gt0.true))

pub returns-then-five-gt0 : goal.returns-then-five-gt0
returns-then-five-gt0 c = sym
    (type_five _ _
    c.pass_blanks-g.ensures.0 (c.stands_to-five.ensures c.if-five-gt0.true))

pub type_apart-requires : goal.type_apart-requires
type_apart-requires c = c.requires

pub returns : goal.returns
returns c = c.type_apart.ensures

pub overflow_sub-result : goal.overflow_sub-result
overflow_sub-result c = let x = c.stands_to-one.ensures c.if-one-gt0.true in omega (arith, stands_end x)

pub overflow_sub-result-then-two-gt0 : goal.overflow_sub-result-then-two-gt0
overflow_sub-result-then-two-gt0 c = let x = c.stands_to-two.ensures c.if-two-gt0.true in omega (arith, stands_end x)

pub overflow_sub-result-then-three-gt0 : goal.overflow_sub-result-then-three-gt0
overflow_sub-result-then-three-gt0 c = let x = c.stands_to-three.ensures c.if-three-gt0.true in omega (arith, stands_end x)

pub overflow_sub-result-then-four-gt0 : goal.overflow_sub-result-then-four-gt0
overflow_sub-result-then-four-gt0 c = let x = c.stands_to-four.ensures c.if-four-gt0.true in omega (arith, stands_end x)

pub overflow_sub-result-then-five-gt0 : goal.overflow_sub-result-then-five-gt0
overflow_sub-result-then-five-gt0 c = let x = c.stands_to-five.ensures c.if-five-gt0.true in omega (arith, stands_end x)
