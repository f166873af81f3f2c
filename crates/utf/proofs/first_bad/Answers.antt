use mathlib.Core.Path.{refl, sym, ◌∙◌}
use native.Mathlib.Omega.{arith}
use Rattle.utf.proofs.Strides.{apart, bad_here, bad_end}
use Rattle.utf.proofs.first_bad.Goals as goal

pub loop-i-init : goal.loop-i-init
loop-i-init c = (refl, omega arith, refl)

pub returns-then-r-i : goal.returns-then-r-i
returns-then-r-i c =
    let l = c.loop-i in
    let e = l.invariant.0 ∙ bad_here c.args.latin
    c.args.d.now l.i (c.stride-r.ensures.over c.if-r-i.true) in
    (sym e, l.invariant.1)

pub loop-i-smaller : goal.loop-i-smaller
loop-i-smaller c =
    let g = c.stride-r.ensures in
    let a = g.on in
    let b = g.within in
    let m = apart _ _ a c.if-r-i.false in
    omega arith

pub loop-i-preserved : goal.loop-i-preserved
loop-i-preserved c = (
  c.loop-i.invariant.0 ∙ c.stride-r.ensures.again,
  c.stride-r.ensures.within,
  c.loop-i.invariant.2,
)

pub returns : goal.returns
returns c =
    let l = c.loop-i in (
      sym (l.invariant.0 ∙ bad_end c.args.latin c.args.d.now l.i (omega arith)),
      l.invariant.1,
    )
