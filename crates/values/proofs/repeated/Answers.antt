use mathlib.Core.Path.{◌≡◌, ◌∙◌, sym}
use mir.Facts.{to_z-of_z}
use borrow.Author.Rules.{sfits_of}
use native.Mathlib.Omega.{arith}
use Rattle.values.proofs.Facts.{none_until, one_says, none_yet}
use Rattle.values.proofs.repeated.Goals as goal

pub loop-i-init : goal.loop-i-init
loop-i-init c = none_yet _ _ _

pub returns-then-same : goal.returns-then-same
returns-then-same c =
    let e = rw (to_z-of_z (sfits_of c.x-1.given), to_z-of_z c.ranges.z) at
    (sym c.same.ensures ∙ c.if-same.true) in
    one_says _ _ _ _ c.loop-i.i c.loop-i.auto.i
    c.loop-i-test.true e

pub loop-i-preserved : goal.loop-i-preserved
loop-i-preserved c =
    let e = rw (to_z-of_z (sfits_of c.x-1.given)) at (sym c.same.ensures ∙ c.if-same.false) in
    none_until _ _ c.args.last _ c.loop-i.i c.loop-i.auto.i c.loop-i.invariant e

pub returns : goal.returns
returns c =
    let q : c.loop-i.i ≡ c.args.last = omega arith in
    sym (rw (q, to_z-of_z c.ranges.z) at c.loop-i.invariant)
