use mathlib.Core.Path.{◌∙◌, sym}
use borrow.Author.Tests.{eq-eqb, ne_eqb, lt-ltb, le-ltb}
use Rattle.scan.specs.rule.Number.{is_digit}
use Rattle.marks.specs.rule.Marks.{is_hex}
use Rattle.marks.proofs.is_hex.Goals as goal

pub returns-then-class_of-eq-DIGIT : goal.returns-then-class_of-eq-DIGIT
unfolding is_hex is_digit
returns-then-class_of-eq-DIGIT c = rw (eq-eqb _ 2 (sym c.class_of.ensures ∙ c.if-class_of-eq-DIGIT.true))

pub returns-then-u-lt65 : goal.returns-then-u-lt65
unfolding is_hex is_digit
returns-then-u-lt65 c = rw (
  ne_eqb _ 2 (λ e. c.if-class_of-eq-DIGIT.false (c.class_of.ensures ∙ e)),
  ← c.upper-u.ensures,
  lt-ltb _ 65 c.if-u-lt65.true,
)

pub returns-else-u-lt65 : goal.returns-else-u-lt65
unfolding is_hex is_digit
returns-else-u-lt65 c = rw (
  ne_eqb _ 2 (λ e. c.if-class_of-eq-DIGIT.false (c.class_of.ensures ∙ e)),
  ← c.upper-u.ensures,
  le-ltb _ 65 c.if-u-lt65.false,
)
