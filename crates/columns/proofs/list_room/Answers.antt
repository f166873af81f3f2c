use mathlib.Core.Path.{refl, sym, ◌∙◌}
use native.Mathlib.Omega.{arith}
use borrow.Author.Rules.{sfits_of}
use lib.Dec.{eqb}
use lib.IntN.{pos}
use lib.ListN.{get_or, length-set}
use mir.Facts.{to_z-of_z}
use Rattle.below.specs.Below.{any_none}
use Rattle.cells.specs.rule.Cell.{cell, eq_z}
use Rattle.columns.specs.Listed.{copied_more, copied_all}
use Rattle.columns.proofs.list_room.Goals as goal

pub loop-k-init : goal.loop-k-init
loop-k-init c =
    let a = c.args in (
      refl,
      λ x. any_none (λ j. eq_z (cell a.list.now j) (pos x)) ∙ sym (any_none (λ j. eqb (get_or a.room.now j 0) x)),
    )

pub loop-k-preserved : goal.loop-k-preserved
loop-k-preserved c =
    let a = c.args in
    let l = c.loop-k in
    let low = c.loop-k-test.true in (
      rw length-set l.invariant.0,
      λ x. rw (to_z-of_z (sfits_of c.code_of.type_inv))
          (copied_more a.room.now l.list l.k x c.code_of.ensures
          (omega (arith, l.invariant.0, c.requires)) (l.invariant.1 x)),
    )

pub returns : goal.returns
returns c =
    let l = c.loop-k in
    copied_all c.args.room.now l.list l.k l.invariant.1 (omega (arith, c.loop-k-test.false))

pub bounds-room-k : goal.bounds-room-k
bounds-room-k c = omega (arith, c.loop-k-test.true)

pub bounds-list-k : goal.bounds-list-k
bounds-list-k c = omega (
  arith,
  c.loop-k-test.true,
  c.loop-k.invariant.0,
  c.requires,
)

pub shape_of-list : goal.shape_of-list
shape_of-list c = c.loop-k.invariant.0
