use mathlib.Core.Path.{sym, ◌∙◌}
use native.Mathlib.Omega.{arith}
use Rattle.columns.specs.Ones.{marked_start, marked_sixteen}
use Rattle.columns.proofs.pass_sixteens.Goals as goal

pub loop-i-init : goal.loop-i-init
loop-i-init c = (omega arith, marked_start _ _ (omega arith))

pub returns-then-not-all_are : goal.returns-then-not-all_are
returns-then-not-all_are c = c.loop-i.invariant.1

pub loop-i-preserved : goal.loop-i-preserved
loop-i-preserved c = (
  omega arith,
  marked_sixteen c.loop-i.invariant.1 (sym c.all_are.ensures ∙ c.if-not-all_are.false) (omega arith),
)

pub returns : goal.returns
returns c = c.loop-i.invariant.1
