use mathlib.Core.Path.{◌∙◌, sym}
use Rattle.scan.proofs.Orders.{figure_one, figure_none, strip_zero, strip_first, strip_none}
use native.Mathlib.Omega.{arith}
use Rattle.scan.proofs.significant.Goals as goal

pub returns-then-digit-ne48 : goal.returns-then-digit-ne48
returns-then-digit-ne48 c =
    let s = figure_one _ _ c.next_digit.ensures c.in-One.is in
    sym (c.loop-digit.invariant ∙ strip_first s.split c.if-digit-ne48.true)

pub loop-digit-smaller : goal.loop-digit-smaller
loop-digit-smaller c =
    let s = figure_one _ _ c.next_digit.ensures c.in-One.is in
    omega arith

pub loop-digit-preserved : goal.loop-digit-preserved
loop-digit-preserved c =
    let s = figure_one _ _ c.next_digit.ensures c.in-One.is in
    c.loop-digit.invariant ∙ strip_zero s.split c.if-digit-ne48.false

pub returns-in-Nothing : goal.returns-in-Nothing
returns-in-Nothing c = sym (c.loop-digit.invariant
    ∙ strip_none (figure_none _ _ _ c.next_digit.ensures c.in-Nothing.is))
