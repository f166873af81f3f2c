use mathlib.Core.Path.{refl, ◌∙◌}
use native.Mathlib.Omega.{arith}
use Rattle.normal.proofs.Steps.{settled_none, settled_step, settled_whole}
use Rattle.normal.proofs.settle_rows.Goals as goal

pub settle_at-requires : goal.settle_at-requires
settle_at-requires c =
    let l = c.loop-i in
    let p = c.requires in
    let f = p.table_settles.few in
    let s = p.table_settles.stand in record {
      tens = p.tens;
      i_le_most_rows = (omega arith, omega arith);
      settles = rw (l.invariant.1, l.invariant.0) (p.table_settles.row l.i c.loop-i-test.true);
    }

pub loop-i-preserved : goal.loop-i-preserved
loop-i-preserved c =
    let l = c.loop-i in (
      c.settle_at.auto.list ∙ l.invariant.0,
      c.settle_at.auto.bytes ∙ l.invariant.1,
      settled_step _ _ _ _ c.settle_at.ensures refl l.invariant.2,
    )

pub loop-i-init : goal.loop-i-init
loop-i-init c = (refl, refl, settled_none _ _ _)

pub shape_of-list : goal.shape_of-list
shape_of-list c = c.loop-i.invariant.0

pub shape_of-bytes : goal.shape_of-bytes
shape_of-bytes c = c.loop-i.invariant.1

pub returns : goal.returns
returns c = settled_whole _ _ _ _ c.loop-i.invariant.2 c.loop-i-test.false (omega arith)
