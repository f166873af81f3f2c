use mathlib.Core.Path.{refl, ◌∙◌, sym}
use Rattle.scan.proofs.Texts.{stepped, ended}
use Rattle.scan.proofs.Runs.{run_next, run_over, run_end}
use native.Mathlib.Omega.{arith}
use Rattle.scan.proofs.value_run.Goals as goal

pub loop-byte-init : goal.loop-byte-init
loop-byte-init c = refl

pub loop-byte-smaller : goal.loop-byte-smaller
loop-byte-smaller c =
    let s = stepped _ _ c.next_byte.ensures c.in-Byte.is in
    omega arith

pub loop-byte-preserved : goal.loop-byte-preserved
loop-byte-preserved c =
    let s = stepped _ _ c.next_byte.ensures c.in-Byte.is in
    c.loop-byte.invariant
    ∙ run_next _ _ s.split (sym c.of_value.ensures ∙ c.if-of_value.true) ∙ rw s.next

pub returns-else-of_value : goal.returns-else-of_value
returns-else-of_value c =
    let s = stepped _ _ c.next_byte.ensures c.in-Byte.is in
    sym (c.loop-byte.invariant
    ∙ run_over _ _ s.split (sym c.of_value.ensures ∙ c.if-of_value.false))

pub returns-in-End : goal.returns-in-End
returns-in-End c = sym (c.loop-byte.invariant
    ∙ run_end _ _ (ended _ _ c.next_byte.ensures c.in-End.is))
