use mathlib.Core.Path.{refl, ◌∙◌, sym}
use borrow.Author.Tests.{eq-eqb, ne_eqb}
use Rattle.scan.specs.rule.Number.{is_digit}
use Rattle.scan.proofs.Texts.{stepped, ended}
use Rattle.scan.proofs.Orders.{figure_past, figure_here, figure_on, figure_end}
use native.Mathlib.Omega.{arith}
use Rattle.scan.proofs.next_digit.Goals as goal

pub loop-byte-init : goal.loop-byte-init
loop-byte-init c = refl

pub returns-then-end-place : goal.returns-then-end-place
returns-then-end-place c =
    let s = stepped _ _ c.next_byte.ensures c.in-Byte.is in
    sym (c.loop-byte.invariant ∙ figure_past _ s.split c.if-end-place.true)

pub returns-then-class_of-eq-DIGIT : goal.returns-then-class_of-eq-DIGIT
unfolding is_digit
returns-then-class_of-eq-DIGIT c =
    let at-if1 = c.before.before in
    let s = stepped _ _ at-if1.next_byte.ensures at-if1.in-Byte.is in
    sym (at-if1.loop-byte.invariant
    ∙ figure_here _ s.split at-if1.if-end-place.false (eq-eqb _ _ (sym c.class_of.ensures ∙ c.if-class_of-eq-DIGIT.true)) ∙ rw s.next)

pub loop-byte-smaller : goal.loop-byte-smaller
loop-byte-smaller c =
    let s = stepped _ _ c.next_byte.ensures
    c.in-Byte.is in
    omega arith

pub loop-byte-preserved : goal.loop-byte-preserved
unfolding is_digit
loop-byte-preserved c =
    let at-if1 = c.before.before in
    let s = stepped _ _ at-if1.next_byte.ensures at-if1.in-Byte.is in
    at-if1.loop-byte.invariant
    ∙ figure_on _ s.split at-if1.if-end-place.false (ne_eqb _ _ (λ e. c.if-class_of-eq-DIGIT.false (c.class_of.ensures ∙ e)))

pub returns-in-End : goal.returns-in-End
returns-in-End c = sym (c.loop-byte.invariant
    ∙ figure_end _ (ended _ _ c.next_byte.ensures c.in-End.is))
