use mathlib.Core.Path.{◌≡◌, refl, ◌∙◌}
use native.Mathlib.Omega.{arith}
use borrow.Author.Rules.{sfits_of}
use mir.Syntax.{w64}
use mir.Val.{to_z, of_z}
use mir.Facts.{to_z-of_z}
use Rattle.cells.specs.rule.Cell.{cell}
use Rattle.columns.specs.Room.{room_on}
use Rattle.columns.specs.Ones.{one_is, ones_none, ones_more, ones_to}
use Rattle.columns.proofs.put_ones.Goals as goal

pub loop-k-init : goal.loop-k-init
loop-k-init c = (refl, ones_none _ _ _ _ _)

pub bounds-list-k : goal.bounds-list-k
bounds-list-k c = omega (arith, c.loop-k-test.true, c.requires.0)

pub put_one-requires : goal.put_one-requires
put_one-requires c = (
  c.requires.1,
  room_on c.loop-k.invariant.0 c.requires.2,
)

pub loop-k-preserved : goal.loop-k-preserved
loop-k-preserved c =
    let a = c.args in
    let l = c.loop-k in
    let z : to_z w64 (of_z w64 (cell a.list.now l.k))
    ≡ cell a.list.now l.k = rw (to_z-of_z (sfits_of c.put_one-arg-in-loop-k-1.given)) in (
      c.put_one.auto.out ∙ l.invariant.0,
      ones_more l.invariant.1 (one_is z c.put_one.ensures),
    )

pub shape_of-out : goal.shape_of-out
shape_of-out c = c.loop-k.invariant.0

pub returns : goal.returns
returns c =
    let e : c.loop-k.k ≡ c.args.n = omega (arith, c.loop-k-test.false) in
    ones_to e c.loop-k.invariant.1
