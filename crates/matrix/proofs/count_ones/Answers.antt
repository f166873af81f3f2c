use mathlib.Core.Path.{sym, ◌∙◌}
use native.Mathlib.Omega.{arith}
use Rattle.matrix.specs.Counts.{from_start, from_here, from_few, from_on, from_off, all_told, none_told}
use Rattle.matrix.proofs.count_ones.Goals as goal
use Rattle.matrix.proofs.count_ones.Goals.{then-all_are+else-not-count_record, else-all_are+else-not-all_are}

pub loop-k-init : goal.loop-k-init
loop-k-init c = (omega arith, from_start _ _ _ _ _ c.requires.all_there)

pub overflow_mul-flag : goal.overflow_mul-flag
overflow_mul-flag c = let h = from_here c.loop-k-test.true c.loop-k.invariant.1 in omega (arith, h.0)

pub overflow_add-flag : goal.overflow_add-flag
overflow_add-flag c = let h = from_here c.loop-k-test.true c.loop-k.invariant.1 in omega (arith, h.0)

pub all_are-requires : goal.all_are-requires
all_are-requires c = (from_here c.loop-k-test.true c.loop-k.invariant.1).0

pub overflow_mul-step : goal.overflow_mul-step
overflow_mul-step c = let h = from_here c.loop-k-test.true c.loop-k.invariant.1 in omega (arith, h.0)

pub overflow_mul-step-then-all_are : goal.overflow_mul-step-then-all_are
overflow_mul-step-then-all_are c = let h = from_here c.loop-k-test.true c.loop-k.invariant.1 in omega (arith, h.1)

pub overflow_add-values : goal.overflow_add-values
overflow_add-values c = let h = from_here c.loop-k-test.true c.loop-k.invariant.1 in omega (arith, h.1)

pub count_record-requires : goal.count_record-requires
count_record-requires c = record {
  value_in_bounds = (from_here c.loop-k-test.true c.loop-k.invariant.1).1;
  all_few = from_few c.loop-k-test.true c.loop-k.invariant.1 c.loop-k.invariant.0 (omega arith);
}

pub returns-then-not-count_record : goal.returns-then-not-count_record
returns-then-not-count_record c = none_told _ _ _ _ _ _ _

pub all_are-requires-else-all_are : goal.all_are-requires-else-all_are
all_are-requires-else-all_are c = (from_here c.loop-k-test.true c.loop-k.invariant.1).0

pub returns-then-not-all_are : goal.returns-then-not-all_are
returns-then-not-all_are c = none_told _ _ _ _ _ _ _

pub loop-k-preserved : goal.loop-k-preserved
loop-k-preserved c =
    let some = c.loop-k-test.true in
    let h = c.loop-k.invariant in
    elim c.if-all_are.branch [
      | then-all_are+else-not-count_record w ↦
          rw (w.n-is, w.ones-is) (
            omega (arith, h.0),
            from_on some h.1 (sym c.all_are.ensures ∙ w.if-all_are.true) w.count_record.ensures w.if-not-count_record.false,
          )
      | else-all_are+else-not-all_are w ↦
          rw (w.n-is, w.ones-is) (omega (arith, h.0), from_off some h.1 (sym w.all_are-else-all_are.ensures ∙ w.if-not-all_are.false))
    ]

pub returns : goal.returns
returns c = all_told (omega (arith, c.loop-k-test.false)) c.loop-k.invariant.1
