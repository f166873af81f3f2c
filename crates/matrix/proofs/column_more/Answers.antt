use native.Mathlib.Omega.{arith}
use Rattle.summary.specs.rule.Summary.{extended_by}
use Rattle.summary.specs.Laws.{count_on}
use Rattle.matrix.specs.Column.{there_at, there_next, column_with, column_without, column_past}
use Rattle.matrix.proofs.column_more.Goals as goal
use Rattle.matrix.proofs.column_more.Goals.{then-s-flags-eq1, else-s-flags-eq1}

pub overflow_mul-step : goal.overflow_mul-step
overflow_mul-step c = let h = there_at _ _ _ _ _ _ c.loop-k-test.true c.loop-k.invariant.1 in omega (arith, h.0)

pub overflow_add-flags : goal.overflow_add-flags
overflow_add-flags c = let h = there_at _ _ _ _ _ _ c.loop-k-test.true c.loop-k.invariant.1 in omega (arith, h.0)

pub bounds-s-flags : goal.bounds-s-flags
bounds-s-flags c = (there_at _ _ _ _ _ _ c.loop-k-test.true c.loop-k.invariant.1).0

pub overflow_mul-step-then-s-flags-eq1-2 : goal.overflow_mul-step-then-s-flags-eq1-2
overflow_mul-step-then-s-flags-eq1-2 c = let h = there_at _ _ _ _ _ _ c.loop-k-test.true c.loop-k.invariant.1 in omega (arith, h.1)

pub overflow_add-values : goal.overflow_add-values
overflow_add-values c = let h = there_at _ _ _ _ _ _ c.loop-k-test.true c.loop-k.invariant.1 in omega (arith, h.1)

pub get_f64-requires : goal.get_f64-requires
get_f64-requires c = let h = there_at _ _ _ _ _ _ c.loop-k-test.true c.loop-k.invariant.1 in record { at_in_bounds = h.1; t = h.2 }

pub loop-k-preserved : goal.loop-k-preserved
unfolding extended_by
loop-k-preserved c =
    let l = c.loop-k in
    let some = c.loop-k-test.true in
    let rest = there_next _ _ _ _ _ _ some l.invariant.1 in
    elim c.if-s-flags-eq1.branch [
      | then-s-flags-eq1 w ↦
          rw (w.sum-is, w.extend-sum.ensures, w.get_f64.ensures) (
            rw count_on (omega (arith, l.invariant.0)),
            rest,
            rw (column_with _ _ _ _ _ _ some w.if-s-flags-eq1.true) at l.invariant.2,
          )
      | else-s-flags-eq1 w ↦
          rw w.sum-is (omega (arith, l.invariant.0), rest, rw (column_without _ _ _ _ _ _ some w.if-s-flags-eq1.false) at l.invariant.2)
    ]

pub returns : goal.returns
unfolding extended_by
returns c = let a = c.args in
    rw (column_past a.s.now a.step a.flags a.values a.records c.loop-k.k c.loop-k-test.false) at c.loop-k.invariant.2
