use mathlib.Core.Path.{sym, ◌∙◌}
use native.Mathlib.Omega.{arith}
use Rattle.contents.proofs.Passing.{passes_none, passes_wide}
use Rattle.contents.proofs.pass_wide.Goals as goal

pub returns-then-n-lt16 : goal.returns-then-n-lt16
returns-then-n-lt16 c = passes_none _ _ (omega arith)

pub loop-i-init : goal.loop-i-init
loop-i-init c = (omega arith, passes_none _ _ (omega arith))

pub returns-then-not-all_plain : goal.returns-then-not-all_plain
returns-then-not-all_plain c = c.loop-i.invariant.1

pub loop-i-preserved : goal.loop-i-preserved
loop-i-preserved c = (
  omega arith,
  passes_wide _ _ _ 16 c.loop-i.invariant.1 (omega arith)
      (sym c.all_plain.ensures ∙ c.if-not-all_plain.false),
)

pub returns : goal.returns
returns c = c.loop-i.invariant.1
