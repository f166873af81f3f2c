use mathlib.Core.Path.{◌≡◌, ap, ◌∙◌}
use native.Mathlib.Omega.{arith}
use borrow.Author.Rules.{sfits_of}
use borrow.Author.Tests.{ltb-true}
use mir.Syntax.{w64}
use mir.Val.{to_z, of_z}
use mir.Facts.{to_z-of_z}
use Rattle.below.specs.Below.{and_left, and_right}
use Rattle.cells.specs.rule.Cell.{cell, count_of}
use Rattle.columns.specs.Ones.{none_start, none_more, none_to}
use Rattle.columns.proofs.all_before.Goals as goal

pub loop-k-init : goal.loop-k-init
loop-k-init c e = none_start c.args.list.now c.args.gap

pub bounds-list-k : goal.bounds-list-k
bounds-list-k c = omega (arith, c.loop-k-test.true, c.requires)

pub loop-k-preserved : goal.loop-k-preserved
loop-k-preserved c e =
    let a = c.args in
    let l = c.loop-k in
    let z : to_z w64 (of_z w64 (cell a.list.now l.k))
    ≡ cell a.list.now l.k = rw (to_z-of_z (sfits_of c.count_of-arg-1.given)) in
    let n : c.count_of.result ≡ count_of (cell a.list.now l.k) = c.count_of.ensures ∙ ap count_of z in
    none_more a.list.now l.k a.gap (l.invariant (and_left l.all _ e))
    (omega (arith, n, ltb-true c.count_of.result a.gap (and_right l.all _ e)))

pub returns : goal.returns
returns c =
    let e : c.loop-k.k ≡ c.args.n = omega (arith, c.loop-k-test.false) in
    λ q. none_to c.args.list.now _ _ c.args.gap e (c.loop-k.invariant q)
