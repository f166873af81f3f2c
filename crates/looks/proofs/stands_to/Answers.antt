use native.Mathlib.Omega.{arith}
use Rattle.looks.proofs.stands_to.Goals as goal

pub same_at-requires : goal.same_at-requires
same_at-requires c =
    let e = c.left_from.ensures (omega (arith, c.if-left_from-w.false, c.if-w-eq0.false)) in
    omega (arith, e, c.if-left_from-w.false)

pub overflow_add-result : goal.overflow_add-result
overflow_add-result c =
    let e = c.left_from.ensures (omega (arith, c.if-left_from-w.false, c.if-w-eq0.false)) in
    omega (arith, e, c.if-left_from-w.false)

pub returns-then-same_at : goal.returns-then-same_at
returns-then-same_at c h = c.same_at.ensures c.if-same_at.true

pub returns-then-w-eq0 : goal.returns-then-w-eq0
returns-then-w-eq0 c h = absurd (omega arith)

pub returns-then-left_from-w : goal.returns-then-left_from-w
returns-then-left_from-w c h = absurd (omega arith)

pub returns : goal.returns
returns c h = absurd (omega arith)
