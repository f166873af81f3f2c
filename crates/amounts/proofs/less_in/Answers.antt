use mathlib.Core.Path.{◌∙◌}
use native.Mathlib.Omega.{arith}
use Rattle.amounts.proofs.Orders.{pairing_start, pairing_next, pairing_longer, pairing_shorter, pairing_even}
use Rattle.amounts.proofs.less_in.Goals as goal

pub loop-x-init : goal.loop-x-init
loop-x-init c = (
  c.significant-i.ensures.0,
  c.significant-j.ensures.0,
  λ x y h k. pairing_start c.args.a.now c.args.b.now x y
      (c.significant-i.ensures.1 x h) (c.significant-j.ensures.1 y k),
)

pub next_digit-requires : goal.next_digit-requires
next_digit-requires c = c.loop-x.invariant.0

pub next_digit-requires-in-Some : goal.next_digit-requires-in-Some
next_digit-requires-in-Some c = c.loop-x.invariant.1

pub loop-x-smaller : goal.loop-x-smaller
loop-x-smaller c =
    let o = c.next_digit.ensures.0 _ _ c.in-Some.is in omega (arith, o.0, o.1)

pub loop-x-preserved : goal.loop-x-preserved
loop-x-preserved c =
    let args = c.args in (
      (c.next_digit.ensures.0 _ _ c.in-Some.is).1,
      (c.next_digit-in-Some.ensures.0 _ _ c.in-Some-next_digit.is).1,
      λ x y h k. pairing_next args.a.now args.b.now x y c.loop-x.o (c.loop-x.invariant.2 x y h k)
          c.next_digit.ensures.1 c.next_digit-in-Some.ensures.1 c.in-Some.is
          c.in-Some-next_digit.is c.then_order-o.ensures,
    )

pub returns-in-None-next_digit : goal.returns-in-None-next_digit
returns-in-None-next_digit c =
    let args = c.args in
    λ x y h k. pairing_longer args.a.now args.b.now x y c.loop-x.o (c.loop-x.invariant.2 x y h k)
    c.next_digit.ensures.1 c.next_digit-in-Some.ensures.1
    c.in-Some.is c.in-None-next_digit.is

pub next_digit-requires-in-None : goal.next_digit-requires-in-None
next_digit-requires-in-None c = c.loop-x.invariant.1

pub returns-in-Some-next_digit-2 : goal.returns-in-Some-next_digit-2
returns-in-Some-next_digit-2 c =
    let args = c.args in
    λ x y h k. pairing_shorter args.a.now args.b.now x y c.loop-x.o (c.loop-x.invariant.2 x y h k)
    c.next_digit.ensures.1 c.next_digit-in-None.ensures.1
    c.in-None.is c.in-Some-next_digit-2.is

pub returns-in-None-next_digit-2 : goal.returns-in-None-next_digit-2
returns-in-None-next_digit-2 c =
    let args = c.args in
    λ x y h k. c.is_less.ensures ∙ pairing_even args.a.now args.b.now x y c.loop-x.o (c.loop-x.invariant.2 x y h k)
    c.next_digit.ensures.1 c.next_digit-in-None.ensures.1
    c.in-None.is c.in-None-next_digit-2.is
