use mathlib.Core.Path.{◌≡◌, refl, ◌∙◌}
use native.Mathlib.Omega.{arith}
use borrow.Author.Rules.{rules}
use borrow.Author.Tests.{not-true, not-false}
use mir.Syntax.{w64}
use mir.Val.{to_z, of_z}
use lib.ListN.{length-set}
use Rattle.columns.specs.Stretch.{run_none, run_more, run_range, no_range}
use Rattle.columns.proofs.mark_range.Goals as goal
use Rattle.columns.proofs.mark_range.Goals.{After-loop-c}

-- the row's numbers are read back from their bits as they are
from_back : (c : After-loop-c)
    → let args = c.args in
    to_z w64 (of_z w64 args.row.from) ≡ args.row.from
from_back c = search rules

to_back : (c : After-loop-c)
    → let args = c.args in
    to_z w64 (of_z w64 args.row.to) ≡ args.row.to
to_back c = search rules

pub returns-then-not-row : goal.returns-then-not-row
returns-then-not-row c = no_range c.args.row _ (not-true _ c.if-not-row.true)
    c.clear.ensures

pub loop-c-init : goal.loop-c-init
loop-c-init c = (omega arith, refl, run_none _ _ c.clear.ensures)

pub bounds-marks-c : goal.bounds-marks-c
bounds-marks-c c = omega (arith, c.loop-c-test.true, c.loop-c.invariant.1, c.end_of-past.ensures.low)

pub loop-c-preserved : goal.loop-c-preserved
loop-c-preserved c =
    let l = c.loop-c in (
      omega (arith, l.invariant.0),
      simp length-set l.invariant.1,
      run_more _ _ _ l.invariant.0 (bounds-marks-c c) l.invariant.2,
    )

pub shape_of-marks : goal.shape_of-marks
shape_of-marks c = c.loop-c.invariant.1 ∙ c.clear.auto.marks

pub returns : goal.returns
returns c =
    let l = c.loop-c in
    let r = c.args.row in
    let e : l.c ≡ c.end_of-past.result = omega (arith, c.loop-c-test.false) in
    run_range r l.marks (not-false _ c.if-not-row.false)
    (rw (to_back c, ← l.invariant.1) at c.end_of-past.ensures)
    (rw (from_back c) at c.start_of-c.ensures) (rw e at l.invariant.2)
