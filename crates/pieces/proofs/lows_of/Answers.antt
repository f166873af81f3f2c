use mathlib.Core.Path.{◌≡◌, sym}
use Prim.Native.Nat.{ℕ, suc, ◌+◌, ◌*◌, ◌-◌}
use native.Mathlib.Omega.{arith}
use Rattle.pieces.specs.Scan.{bits_none, bits_two, bits_few}
use Rattle.pieces.proofs.lows_of.Goals as goal

pub loop-h-init : goal.loop-h-init
loop-h-init c = sym (bits_none _ _)

pub overflow_mul-bits : goal.overflow_mul-bits
overflow_mul-bits c =
    let l = c.loop-h in
    let a = c.args in
    omega (arith, l.invariant, bits_few a.d.now (a.i + 2 * l.h) (16 - 2 * l.h) (omega arith))

pub overflow_add-bits : goal.overflow_add-bits
overflow_add-bits c =
    let l = c.loop-h in
    let a = c.args in
    omega (arith, l.invariant, bits_few a.d.now (a.i + 2 * l.h) (16 - 2 * l.h) (omega arith), c.flag-low.ensures.1)

pub overflow_add-bits-in-loop-h : goal.overflow_add-bits-in-loop-h
overflow_add-bits-in-loop-h c =
    let l = c.loop-h in
    let a = c.args in
    omega (
      arith,
      l.invariant,
      bits_few a.d.now (a.i + 2 * l.h) (16 - 2 * l.h) (omega arith),
      c.flag-low.ensures.1,
      c.flag-next.ensures.1,
    )

pub loop-h-preserved : goal.loop-h-preserved
loop-h-preserved c =
    let l = c.loop-h in
    let a = c.args in
    let p : ℕ = a.i + 2 * (l.h - 1) in
    let e : 16 - 2 * (l.h - 1) ≡ suc (suc (16 - 2 * l.h)) = omega arith in
    let q : p + 1 + 1 ≡ a.i + 2 * l.h = omega arith in
    let t = rw q at (bits_two a.d.now p (16 - 2 * l.h)) in
    rw e (omega (arith, t, l.invariant, c.flag-low.ensures.0, c.flag-next.ensures.0))

pub returns : goal.returns
returns c =
    let l = c.loop-h in
    let a = c.args in
    let q : a.i + 2 * l.h ≡ a.i = omega arith in
    let w : 16 - 2 * l.h ≡ 16 = omega arith in
    rw (q, w) at l.invariant

pub overflow_mul-bits-in-loop-h : goal.overflow_mul-bits-in-loop-h
overflow_mul-bits-in-loop-h c = omega (arith, c.flag-next.ensures.1)
