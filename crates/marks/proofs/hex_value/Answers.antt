use mathlib.Core.Path.{◌∙◌, sym}
use native.Mathlib.Omega.{arith}
use borrow.Author.Tests.{eq-eqb, ne_eqb}
use Rattle.scan.specs.rule.Number.{is_digit}
use Rattle.scan.proofs.Orders.{digit_bounds}
use Rattle.marks.proofs.Parts.{hex_letter}
use Rattle.marks.proofs.hex_value.Goals as goal

pub overflow_sub-result : goal.overflow_sub-result
unfolding is_digit
overflow_sub-result c = let h = digit_bounds _ (eq-eqb _ 2 (sym c.class_of.ensures ∙ c.if-class_of-eq-DIGIT.true)) in omega arith

pub returns-then-class_of-eq-DIGIT : goal.returns-then-class_of-eq-DIGIT
unfolding is_digit
returns-then-class_of-eq-DIGIT c =
    let e = eq-eqb _ 2 (sym c.class_of.ensures ∙ c.if-class_of-eq-DIGIT.true) in
    let h = digit_bounds _ e in
    (rw e, omega arith)

pub overflow_sub-result-2 : goal.overflow_sub-result-2
unfolding is_digit
overflow_sub-result-2 c =
    let h = hex_letter _ (ne_eqb _ 2 (λ e. c.if-class_of-eq-DIGIT.false (c.class_of.ensures ∙ e)))
    c.requires.b_value in
    omega (arith, c.upper.ensures)

pub returns : goal.returns
unfolding is_digit
returns c =
    let e = ne_eqb _ 2 (λ e. c.if-class_of-eq-DIGIT.false (c.class_of.ensures ∙ e)) in
    let h = hex_letter _ e c.requires.b_value in
    (rw (e, c.upper.ensures), omega (arith, c.upper.ensures))
