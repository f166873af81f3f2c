use mathlib.Core.Path.{refl}
use native.Mathlib.Omega.{arith}
use Rattle.amounts.proofs.Orders.{zeros_next, zeros_over, zeros_end}
use Rattle.amounts.proofs.significant.Goals as goal

pub loop-code-init : goal.loop-code-init
loop-code-init c = (omega arith, λ cs h. record { rest = cs; left = h; same = refl })

pub next_digit-requires : goal.next_digit-requires
next_digit-requires c = c.loop-code.invariant.0

pub returns-then-code-ne48 : goal.returns-then-code-ne48
returns-then-code-ne48 c = (
  c.loop-code.invariant.0,
  λ cs h. zeros_over c.args.s.now cs
      (c.loop-code.invariant.1 cs h) c.next_digit.ensures.1
      c.in-Some.is c.if-code-ne48.true,
)

pub loop-code-smaller : goal.loop-code-smaller
loop-code-smaller c = let o = c.next_digit.ensures.0 _ _ c.in-Some.is in
    omega (arith, o.0, o.1)

pub loop-code-preserved : goal.loop-code-preserved
loop-code-preserved c = (
  (c.next_digit.ensures.0 _ _ c.in-Some.is).1,
  λ cs h. zeros_next c.args.s.now cs
      (c.loop-code.invariant.1 cs h) c.next_digit.ensures.1
      c.in-Some.is c.if-code-ne48.false,
)

pub returns : goal.returns
returns c = (
  c.loop-code.invariant.0,
  λ cs h. zeros_end c.args.s.now cs (c.loop-code.invariant.1 cs h) c.next_digit.ensures.1 c.in_default.is,
)
