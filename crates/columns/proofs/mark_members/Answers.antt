use mathlib.Core.Path.{◌≡◌, refl, ◌∙◌}
use native.Mathlib.Omega.{arith}
use borrow.Author.Rules.{sfits_of}
use mir.Syntax.{w64}
use mir.Val.{to_z, of_z}
use mir.Facts.{to_z-of_z}
use Rattle.cells.specs.rule.Cell.{cell, eq_z}
use Rattle.sets.proofs.MarkLaws.{besides_none, besides_more, besides_is, besides_to}
use Rattle.columns.proofs.mark_members.Goals as goal

pub loop-k-init : goal.loop-k-init
loop-k-init c = (refl, besides_none _ _)

pub bounds-list-k : goal.bounds-list-k
bounds-list-k c = omega (arith, c.loop-k-test.true, c.requires.0)

pub mark_one-requires : goal.mark_one-requires
mark_one-requires c = omega (arith, c.loop-k.invariant.0, c.requires.1)

pub loop-k-preserved : goal.loop-k-preserved
loop-k-preserved c =
    let a = c.args in
    let l = c.loop-k in
    let z : to_z w64 (of_z w64 (cell a.list.now l.k))
    ≡ cell a.list.now l.k = rw (to_z-of_z (sfits_of c.mark_one-arg-in-loop-k-1.given)) in (
      c.mark_one.auto.marks ∙ l.invariant.0,
      besides_more (λ j x. eq_z (cell a.list.now j) x) l.k _ _ _ l.invariant.0 l.invariant.1
          (besides_is z c.mark_one.ensures),
    )

pub shape_of-marks : goal.shape_of-marks
shape_of-marks c = c.loop-k.invariant.0

pub returns : goal.returns
returns c =
    let a = c.args in
    let e : c.loop-k.k ≡ a.n = omega (arith, c.loop-k-test.false) in
    besides_to (λ j x. eq_z (cell a.list.now j) x) _ _ e c.loop-k.invariant.1
