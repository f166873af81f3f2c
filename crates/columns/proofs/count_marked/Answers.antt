use mathlib.Core.Path.{ap}
use mathlib.Core.Bool.{true}
use mathlib.Core.List.{List}
use native.Mathlib.Omega.{arith}
use lib.ListN.{length}
use Rattle.matrix.specs.declared.Entry.{Entry}
use Rattle.columns.specs.Marked.{marked_on, marked_off, marked_none}
use Rattle.columns.proofs.count_marked.Goals as goal
use Rattle.columns.proofs.count_marked.Goals.{then-marks-c-eq1, else-marks-c-eq1}

pub overflow_add-k : goal.overflow_add-k
overflow_add-k c = omega (arith, c.loop-c.invariant.0, c.loop-c-test.true, c.requires)

pub loop-c-preserved : goal.loop-c-preserved
loop-c-preserved c =
    let l = c.loop-c in
    let m = c.args.marks.now in
    elim c.if-marks-c-eq1.branch [
      | then-marks-c-eq1 w ↦
          let e = ap (λ (es : List Entry). length es) (marked_on true m m l.c c.loop-c-test.true w.if-marks-c-eq1.true) in
          (omega (arith, w.k-is, l.invariant.0), omega (arith, w.k-is, e, l.invariant.1))
      | else-marks-c-eq1 w ↦
          let e = ap (λ (es : List Entry). length es) (marked_off true m m l.c c.loop-c-test.true w.if-marks-c-eq1.false) in
          (omega (arith, w.k-is, l.invariant.0), omega (arith, w.k-is, e, l.invariant.1))
    ]

pub returns : goal.returns
returns c =
    let l = c.loop-c in
    let m = c.args.marks.now in
    let e = ap (λ (es : List Entry). length es) (marked_none true m m l.c c.loop-c-test.false) in
    omega (arith, e, l.invariant.1)
