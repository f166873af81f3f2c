use mathlib.Core.Path.{ap}
use native.Mathlib.Omega.{arith}
use lib.ListN.{length}
use Rattle.stretches.proofs.Outcomes.{begins, told_one, told_over, room_short, room_fits}
use Rattle.stretches.proofs.count_signs.Goals as goal

pub loop-cursor-init : goal.loop-cursor-init
loop-cursor-init c =
    let a = c.args in
    let b = begins a.latin a.d.now a.at c.start_at-c.result c.start_at-c.ensures c.requires in
    (omega (arith, ap length b.signs), omega arith, b.next, b.small)

pub next_sign-requires : goal.next_sign-requires
next_sign-requires c = (c.loop-cursor.invariant.2, c.loop-cursor.invariant.3)

pub returns-then-n-room : goal.returns-then-n-room
returns-then-n-room c =
    let i = c.loop-cursor.invariant.0 in
    let o = told_one _ _ c.next_sign.ensures c.in-One.is in
    room_short _ _ (omega (arith, ap length o.split, i))

pub overflow_add-n : goal.overflow_add-n
overflow_add-n c = let i = c.loop-cursor.invariant.1 in omega arith

pub loop-cursor-smaller : goal.loop-cursor-smaller
loop-cursor-smaller c = let o = told_one _ _ c.next_sign.ensures c.in-One.is in
    omega (arith, ap length o.split)

pub loop-cursor-preserved : goal.loop-cursor-preserved
loop-cursor-preserved c =
    let i = c.loop-cursor.invariant.0 in
    let j = c.loop-cursor.invariant.1 in
    let o = told_one _ _ c.next_sign.ensures c.in-One.is in
    (omega (arith, ap length o.split, i), omega arith, o.next, o.small)

pub returns-in-Over : goal.returns-in-Over
returns-in-Over c =
    let i = c.loop-cursor.invariant.0 in
    let j = c.loop-cursor.invariant.1 in
    let e = told_over c.next_sign.ensures c.in-Over.is in
    room_fits _ _ _ (omega (arith, ap length e, i)) (omega (arith, ap length e, i))
