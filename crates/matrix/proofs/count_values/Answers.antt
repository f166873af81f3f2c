use mathlib.Core.Path.{sym, ◌∙◌}
use native.Mathlib.Omega.{arith}
use Rattle.matrix.specs.Counts.{partly_zero, partly_unit, partly_all}
use Rattle.matrix.proofs.count_values.Goals as goal
use Rattle.matrix.proofs.count_values.Goals.{then-bits-eq-ONE, else-bits-eq-ONE+else-bits-ne0}

pub loop-j-preserved : goal.loop-j-preserved
loop-j-preserved c =
    let p = c.loop-j.invariant in
    elim c.if-bits-eq-ONE.branch [
      | then-bits-eq-ONE w ↦
          rw w.ones-is (partly_unit p (omega (arith, p.long, c.requires.all_few.long)) (sym c.get_u64-bits.ensures ∙ w.if-bits-eq-ONE.true))
      | else-bits-eq-ONE+else-bits-ne0 w ↦ rw w.ones-is (partly_zero p (sym c.get_u64-bits.ensures ∙ w.if-bits-ne0.false))
    ]

pub returns : goal.returns
returns c = partly_all c.loop-j.invariant (omega arith)
