use mathlib.Core.Path.{refl}
use native.Mathlib.Omega.{arith}
use Rattle.sink.specs.Sent.{all_owed, less_owed, none_owed}
use Rattle.scan.proofs.Texts.{stepped, ended}
use Rattle.clean_text.specs.rule.Span.{span_of}
use Rattle.pages.specs.Law.{span_more, span_over, span_end}
use Rattle.pages.proofs.send_kept.Goals as goal

pub loop-byte-init : goal.loop-byte-init
unfolding span_of
loop-byte-init c = all_owed _ _ _ refl

pub shape_of-out-then-end-place : goal.shape_of-out-then-end-place
shape_of-out-then-end-place c = c.loop-byte.invariant.same_room

pub returns-then-end-place : goal.returns-then-end-place
returns-then-end-place c =
    let s = stepped _ _ c.next_byte.ensures c.in-Byte.is in
    none_owed c.loop-byte.invariant (span_over _ _ _ _ _ s.split c.if-end-place.true)

pub loop-byte-smaller : goal.loop-byte-smaller
loop-byte-smaller c =
    let s = stepped _ _ c.next_byte.ensures
    c.in-Byte.is in
    omega (arith, s.next, s.from, s.within)

pub loop-byte-preserved : goal.loop-byte-preserved
loop-byte-preserved c =
    let s = stepped _ _ c.next_byte.ensures c.in-Byte.is in
    less_owed c.loop-byte.invariant
    (span_more _ _ _ _ _ s.split c.if-end-place.false) c.send_byte-p.ensures

pub shape_of-out-in-End : goal.shape_of-out-in-End
shape_of-out-in-End c = c.loop-byte.invariant.same_room

pub returns-in-End : goal.returns-in-End
returns-in-End c = none_owed c.loop-byte.invariant
    (span_end _ _ _ (ended _ _ c.next_byte.ensures c.in-End.is))
