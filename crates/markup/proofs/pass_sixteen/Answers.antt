use mathlib.Core.Path.{◌≡◌}
use native.Mathlib.Omega.{arith}
use Prim.Native.Nat.{◌+◌}
use Rattle.markup.specs.White.{Whites}
use Rattle.markup.proofs.Whites.{whites_none, whites_join}
use Rattle.markup.proofs.pass_sixteen.Goals as goal

pub returns-then-not-four_spaces-2 : goal.returns-then-not-four_spaces-2
returns-then-not-four_spaces-2 c = c.four_spaces.ensures c.if-not-four_spaces.false

pub returns-then-not-four_spaces-3 : goal.returns-then-not-four_spaces-3
returns-then-not-four_spaces-3 c =
    let a = c.args in
    let e : a.i + 4 + 4 ≡ a.i + 8 = omega arith in
    rw (← e) (whites_join _ _ (c.four_spaces.ensures
    c.if-not-four_spaces.false)
    (c.four_spaces-2.ensures c.if-not-four_spaces-2.false))

pub returns-then-four_spaces : goal.returns-then-four_spaces
returns-then-four_spaces c =
    let a = c.args in
    let d = a.d.now in
    let e : a.i + 4 + 4 ≡ a.i + 8 = omega arith in
    let f : a.i + 8 + 4 ≡ a.i + 12 = omega arith in
    let g : a.i + 12 + 4 ≡ a.i + 16 = omega arith in
    let x : Whites d a.i (a.i + 8) = rw (← e)
    (whites_join _ _ (c.four_spaces.ensures
    c.if-not-four_spaces.false)
    (c.four_spaces-2.ensures c.if-not-four_spaces-2.false)) in
    let y : Whites d a.i (a.i + 12) = rw (← f)
    (whites_join _ _ x (c.four_spaces-3.ensures c.if-not-four_spaces-3.false)) in
    rw (← g) (whites_join _ _ y (c.four_spaces-4.ensures c.if-four_spaces.true))

pub returns-else-four_spaces : goal.returns-else-four_spaces
returns-else-four_spaces c =
    let a = c.args in
    let d = a.d.now in
    let e : a.i + 4 + 4 ≡ a.i + 8 = omega arith in
    let f : a.i + 8 + 4 ≡ a.i + 12 = omega arith in
    let x : Whites d a.i (a.i + 8) = rw (← e)
    (whites_join _ _ (c.four_spaces.ensures
    c.if-not-four_spaces.false)
    (c.four_spaces-2.ensures c.if-not-four_spaces-2.false)) in
    rw (← f) (whites_join _ _ x (c.four_spaces-3.ensures c.if-not-four_spaces-3.false))

pub returns-then-not-four_spaces : goal.returns-then-not-four_spaces
returns-then-not-four_spaces c = whites_none _ _ (omega arith)
