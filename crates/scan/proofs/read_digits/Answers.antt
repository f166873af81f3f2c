use mathlib.Core.Path.{refl, ◌∙◌, sym}
use borrow.Author.Tests.{eq-eqb, ne_eqb}
use Rattle.scan.specs.rule.Number.{is_digit}
use Rattle.scan.proofs.Texts.{stepped, ended}
use Rattle.scan.proofs.Runs.{digits_next, digits_over, digits_end}
use native.Mathlib.Omega.{arith}
use Rattle.scan.proofs.read_digits.Goals as goal

pub loop-byte-init : goal.loop-byte-init
loop-byte-init c = (refl, omega arith, omega arith)

pub returns-then-class_of-ne-DIGIT : goal.returns-then-class_of-ne-DIGIT
unfolding is_digit
returns-then-class_of-ne-DIGIT c =
    let s = stepped _ _ c.next_byte.ensures c.in-Byte.is in
    sym (c.loop-byte.invariant.0 ∙ digits_over _ _ _ s.split (ne_eqb _ _ (λ e. c.if-class_of-ne-DIGIT.true (c.class_of.ensures ∙ e)))
    c.loop-byte.invariant.1)

pub overflow_add-count : goal.overflow_add-count
overflow_add-count c =
    let s = stepped _ _ c.next_byte.ensures
    c.in-Byte.is in
    omega arith

pub loop-byte-smaller : goal.loop-byte-smaller
loop-byte-smaller c =
    let s = stepped _ _ c.next_byte.ensures
    c.in-Byte.is in
    omega arith

pub loop-byte-preserved : goal.loop-byte-preserved
unfolding is_digit
loop-byte-preserved c =
    let s = stepped _ _ c.next_byte.ensures c.in-Byte.is in (
      c.loop-byte.invariant.0
          ∙ digits_next _ _ _ s.split (eq-eqb _ _ (sym c.class_of.ensures ∙ c.if-class_of-ne-DIGIT.false))
          ∙ rw (s.next, c.pushed-size.ensures.0),
      c.pushed-size.ensures.1,
      omega arith,
    )

pub returns-in-End : goal.returns-in-End
returns-in-End c = sym (c.loop-byte.invariant.0
    ∙ digits_end _ _ _ (ended _ _ c.next_byte.ensures c.in-End.is)
    c.loop-byte.invariant.1)
