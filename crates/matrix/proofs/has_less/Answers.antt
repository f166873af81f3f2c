use mathlib.Core.Path.{sym, ap, ◌∙◌}
use native.Mathlib.Omega.{arith}
use Rattle.matrix.specs.Column.{there_at, there_next, column_with, column_without, column_past}
use lib.Ieee.{Float, lt}
use Rattle.matrix.specs.Ones.{unit}
use Rattle.matrix.specs.Told.{any_less, first_less, later_less}
use Rattle.matrix.proofs.has_less.Goals as goal
use Rattle.matrix.proofs.has_less.Goals.{else-s-flags-eq1-via-then-s-flags-eq1+else-get_f64, else-s-flags-eq1-via-else-s-flags-eq1}

pub overflow_mul-step : goal.overflow_mul-step
overflow_mul-step c = let h = there_at _ _ _ _ _ _ c.loop-k-test.true c.loop-k.invariant.0 in omega (arith, h.0)

pub overflow_add-flags : goal.overflow_add-flags
overflow_add-flags c = let h = there_at _ _ _ _ _ _ c.loop-k-test.true c.loop-k.invariant.0 in omega (arith, h.0)

pub bounds-s-flags : goal.bounds-s-flags
bounds-s-flags c = (there_at _ _ _ _ _ _ c.loop-k-test.true c.loop-k.invariant.0).0

pub overflow_mul-step-then-s-flags-eq1-2 : goal.overflow_mul-step-then-s-flags-eq1-2
overflow_mul-step-then-s-flags-eq1-2 c = let h = there_at _ _ _ _ _ _ c.loop-k-test.true c.loop-k.invariant.0 in omega (arith, h.1)

pub overflow_add-values : goal.overflow_add-values
overflow_add-values c = let h = there_at _ _ _ _ _ _ c.loop-k-test.true c.loop-k.invariant.0 in omega (arith, h.1)

pub get_f64-requires : goal.get_f64-requires
get_f64-requires c = let h = there_at _ _ _ _ _ _ c.loop-k-test.true c.loop-k.invariant.0 in record { at_in_bounds = h.1; t = h.2 }

pub returns-then-get_f64 : goal.returns-then-get_f64
returns-then-get_f64 c =
    let e = column_with _ _ _ _ _ _ c.loop-k-test.true c.if-s-flags-eq1.true in
    sym (ap any_less e ∙ first_less _ _ (ap (λ (x : Float). lt x unit) (sym c.get_f64.ensures) ∙ c.if-get_f64.true)) ∙ c.loop-k.invariant.1

pub loop-k-preserved : goal.loop-k-preserved
loop-k-preserved c =
    let l = c.loop-k in
    let some = c.loop-k-test.true in (
      there_next _ _ _ _ _ _ some l.invariant.0,
      elim c.else-s-flags-eq1.branch [
        | else-s-flags-eq1-via-then-s-flags-eq1+else-get_f64 w ↦
            let e = column_with _ _ _ _ _ _ some w.if-s-flags-eq1.true in
            sym (ap any_less e ∙ later_less _ _ (ap (λ (x : Float). lt x unit) (sym w.get_f64.ensures) ∙ w.if-get_f64.false))
            ∙ l.invariant.1
        | else-s-flags-eq1-via-else-s-flags-eq1 w ↦
            let e = column_without _ _ _ _ _ _ some w.if-s-flags-eq1.false in
            sym (ap any_less e) ∙ l.invariant.1
      ],
    )

pub returns : goal.returns
unfolding any_less
returns c = let a = c.args in
    rw (column_past a.s.now a.step a.flags a.values a.records c.loop-k.k c.loop-k-test.false) at c.loop-k.invariant.1
