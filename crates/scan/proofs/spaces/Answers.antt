use mathlib.Core.Path.{refl, ◌∙◌, sym}
use borrow.Author.Tests.{eq-eqb, ne_eqb}
use Rattle.scan.specs.rule.Number.{is_space}
use Rattle.scan.proofs.Texts.{stepped, ended}
use Rattle.scan.proofs.Runs.{run_next, run_over, run_end}
use native.Mathlib.Omega.{arith}
use Rattle.scan.proofs.spaces.Goals as goal

pub loop-byte-init : goal.loop-byte-init
loop-byte-init c = refl

pub returns-then-class_of-ne-SPACE : goal.returns-then-class_of-ne-SPACE
unfolding is_space
returns-then-class_of-ne-SPACE c =
    let s = stepped _ _ c.next_byte.ensures c.in-Byte.is in
    sym (c.loop-byte.invariant
    ∙ run_over _ _ s.split (ne_eqb _ _ (λ e. c.if-class_of-ne-SPACE.true (c.class_of.ensures ∙ e))))

pub loop-byte-smaller : goal.loop-byte-smaller
loop-byte-smaller c =
    let s = stepped _ _ c.next_byte.ensures c.in-Byte.is in
    omega arith

pub loop-byte-preserved : goal.loop-byte-preserved
unfolding is_space
loop-byte-preserved c =
    let s = stepped _ _ c.next_byte.ensures c.in-Byte.is in
    c.loop-byte.invariant
    ∙ run_next _ _ s.split (eq-eqb _ _ (sym c.class_of.ensures ∙ c.if-class_of-ne-SPACE.false)) ∙ rw s.next

pub returns-in-End : goal.returns-in-End
returns-in-End c = sym (c.loop-byte.invariant
    ∙ run_end _ _ (ended _ _ c.next_byte.ensures c.in-End.is))
