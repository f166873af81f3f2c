use mathlib.Core.Path.{refl, sym, ◌∙◌}
use native.Mathlib.Omega.{arith}
use Rattle.contents.proofs.Passing.{more_same, more_on, more_within, over_is}
use Rattle.contents.proofs.read_content.Goals as goal

pub loop-going-init : goal.loop-going-init
loop-going-init c = (refl, c.requires)

pub loop-going-smaller : goal.loop-going-smaller
loop-going-smaller c =
    let e = c.in-More.is in
    let s = c.pass_step.ensures in
    let a = more_on e s in
    let b = more_within e s in
    omega arith

pub loop-going-preserved : goal.loop-going-preserved
loop-going-preserved c =
    let e = c.in-More.is in
    let s = c.pass_step.ensures in
    (c.loop-going.invariant.0 ∙ more_same e s, more_within e s)

pub returns-in-Over : goal.returns-in-Over
returns-in-Over c =
    let s = c.pass_step.ensures in
    sym (c.loop-going.invariant.0 ∙ over_is c.in-Over.is s)
