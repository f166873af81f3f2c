use mathlib.Core.Path.{sym, ◌∙◌}
use native.Mathlib.Omega.{arith}
use Rattle.filters.proofs.Passing.{apart_none, apart_wide}
use Rattle.filters.proofs.pass_wide.Goals as goal

pub returns-then-count-lt16 : goal.returns-then-count-lt16
returns-then-count-lt16 c = apart_none _ _ _ _ (omega arith)

pub loop-i-init : goal.loop-i-init
loop-i-init c = (omega arith, apart_none _ _ _ _ (omega arith))

pub returns-then-not-all_apart : goal.returns-then-not-all_apart
returns-then-not-all_apart c = c.loop-i.invariant.1

pub loop-i-preserved : goal.loop-i-preserved
loop-i-preserved c = (
  omega arith,
  apart_wide _ _ _ _ _ 16 c.loop-i.invariant.1 (omega arith)
      (sym c.all_apart.ensures ∙ c.if-not-all_apart.false),
)

pub returns : goal.returns
returns c = c.loop-i.invariant.1
