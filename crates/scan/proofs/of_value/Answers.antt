use mathlib.Core.Path.{◌∙◌, sym}
use borrow.Author.Tests.{eq-eqb, ne_eqb}
use Rattle.scan.specs.rule.Number.{is_value, is_digit}
use Rattle.scan.proofs.of_value.Goals as goal

pub returns-then-class_of-eq-DIGIT : goal.returns-then-class_of-eq-DIGIT
unfolding is_value is_digit
returns-then-class_of-eq-DIGIT c = rw (eq-eqb _ 2 (sym c.class_of.ensures ∙ c.if-class_of-eq-DIGIT.true))

pub returns-then-b-eq43 : goal.returns-then-b-eq43
unfolding is_value is_digit
returns-then-b-eq43 c = rw (ne_eqb _ 2 (λ e. c.if-class_of-eq-DIGIT.false (c.class_of.ensures ∙ e)), eq-eqb _ 43 c.if-b-eq43.true)

pub returns-then-b-eq45 : goal.returns-then-b-eq45
unfolding is_value is_digit
returns-then-b-eq45 c = rw (
  ne_eqb _ 2 (λ e. c.if-class_of-eq-DIGIT.false (c.class_of.ensures ∙ e)),
  ne_eqb _ 43 c.if-b-eq43.false,
  eq-eqb _ 45 c.if-b-eq45.true,
)

pub returns : goal.returns
unfolding is_value is_digit
returns c = rw (
  ne_eqb _ 2 (λ e. c.if-class_of-eq-DIGIT.false (c.class_of.ensures ∙ e)),
  ne_eqb _ 43 c.if-b-eq43.false,
  ne_eqb _ 45 c.if-b-eq45.false,
)
