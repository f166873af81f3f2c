use mathlib.Core.Path.{◌≡◌}
use native.Mathlib.Omega.{arith}
use lib.ListN.{length}
use Rattle.columns.specs.Ones.{marked_one}
use Rattle.columns.proofs.pass_marked.Goals as goal

pub loop-i-init : goal.loop-i-init
loop-i-init c = (c.pass_sixteens-i.ensures)

pub loop-i-preserved : goal.loop-i-preserved
loop-i-preserved c = (marked_one c.loop-i.invariant c.if-marks-i-ne1.false (omega arith))

pub returns-then-marks-i-ne1 : goal.returns-then-marks-i-ne1
returns-then-marks-i-ne1 c = c.loop-i.invariant

pub returns : goal.returns
returns c =
    let q : c.loop-i.i ≡ length c.args.marks.now = omega (arith, c.loop-i.invariant.within) in
    rw q at c.loop-i.invariant
