use mathlib.Core.Path.{sym, ◌∙◌}
use native.Mathlib.Omega.{arith}
use Rattle.columns.specs.Stretch.{unmarked_none, unmarked_more}
use Rattle.columns.proofs.pass_unmarked.Goals as goal

pub loop-i-init : goal.loop-i-init
loop-i-init c = (omega arith, unmarked_none _ _ (omega arith))

pub returns-then-mark_among : goal.returns-then-mark_among
returns-then-mark_among c = c.loop-i.invariant.1

pub loop-i-preserved : goal.loop-i-preserved
loop-i-preserved c = (
  omega arith,
  unmarked_more _ _ _ 16 c.loop-i.invariant.1
      (sym c.mark_among.ensures ∙ c.if-mark_among.false) (omega arith),
)

pub returns : goal.returns
returns c = c.loop-i.invariant.1
