use mathlib.Core.Path.{◌≡◌, refl}
use Prim.Native.Nat.{◌+◌, ◌-◌}
use native.Mathlib.Nat.{sub-zero}
use native.Mathlib.Omega.{arith}
use Rattle.field_judges.specs.Judged.{rise_none, rise_more, codes_end}
use Rattle.field_judges.proofs.codes_to.Goals as goal

pub loop-init : goal.loop-init
loop-init c = (rw sub-zero (rise_none _ _ _ _ _), omega arith)

pub returns-then-n-least : goal.returns-then-n-least
returns-then-n-least c = λ z. absurd (z refl)

pub returns-then-high-n : goal.returns-then-high-n
returns-then-high-n c = λ z. absurd (z refl)

pub bounds-d-p : goal.bounds-d-p
bounds-d-p c =
    let i = c.loop.invariant in
    omega (arith, c.code_from-a.ensures.behind (λ z. omega (arith, z, i.1)))

pub returns-then-d-p-ne59 : goal.returns-then-d-p-ne59
returns-then-d-p-ne59 c = λ _.
    let i = c.loop.invariant in
    codes_end i.0 c.code_from-a.ensures (λ z. omega (arith, z, i.1)) (omega arith) (omega arith) (omega arith)

pub overflow_add-least : goal.overflow_add-least
overflow_add-least c = omega (arith, c.code_from-a.ensures.few)

pub overflow_add-i : goal.overflow_add-i
overflow_add-i c =
    let i = c.loop.invariant in
    omega (arith, c.code_from-a.ensures.behind (λ z. omega (arith, z, i.1)))

pub loop-preserved : goal.loop-preserved
loop-preserved c =
    let l = c.loop in
    let i = l.invariant in
    let most = c.args.most in
    let less : most - l.counter - 1 ≡ most - (l.counter + 1) = omega arith in (
      rw less at (rise_more i.0 c.code_from-a.ensures (λ z. omega (arith, z, i.1)) (omega arith) (omega arith) (omega arith)
          c.if-d-p-ne59.false),
      omega (arith, i.1),
    )

pub returns : goal.returns
returns c = λ z. absurd (z refl)
