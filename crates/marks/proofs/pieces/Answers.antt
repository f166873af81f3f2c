use mathlib.Core.Path.{refl, ◌∙◌, sym}
use Rattle.scan.proofs.Texts.{stepped, ended}
use Rattle.marks.proofs.Strings.{string_next, string_end}
use native.Mathlib.Omega.{arith}
use Rattle.marks.proofs.pieces.Goals as goal

pub loop-byte-init : goal.loop-byte-init
loop-byte-init c = refl

pub loop-byte-smaller : goal.loop-byte-smaller
loop-byte-smaller c =
    let s = stepped _ _ c.next_byte.ensures c.in-Byte.is in
    omega (arith, c.onward-n.ensures.0)

pub loop-byte-preserved : goal.loop-byte-preserved
loop-byte-preserved c =
    let s = stepped _ _ c.next_byte.ensures
    c.in-Byte.is in
    c.loop-byte.invariant ∙ string_next _ s.split c.move_inside.ensures
    ∙ rw c.in-Go.is c.onward-n.ensures.1

pub returns-in-Closed : goal.returns-in-Closed
returns-in-Closed c =
    let s = stepped _ _ c.next_byte.ensures
    c.in-Byte.is in
    sym (c.loop-byte.invariant
    ∙ string_next _ s.split c.move_inside.ensures ∙ rw (c.in-Closed.is, s.next))

pub returns-in-Wrong : goal.returns-in-Wrong
returns-in-Wrong c =
    let s = stepped _ _ c.next_byte.ensures
    c.in-Byte.is in
    sym (c.loop-byte.invariant
    ∙ string_next _ s.split c.move_inside.ensures ∙ rw c.in-Wrong.is)

pub returns-in-End : goal.returns-in-End
returns-in-End c = sym (c.loop-byte.invariant
    ∙ string_end _ (ended _ _ c.next_byte.ensures c.in-End.is))
