use mathlib.Core.Path.{◌∙◌, sym}
use Rattle.scan.proofs.Orders.{figure_one, figure_none, less_exactly, less_both, less_longer, less_shorter, less_even}
use native.Mathlib.Omega.{arith}
use Rattle.scan.proofs.less.Goals as goal

pub loop-x-init : goal.loop-x-init
loop-x-init c = rw (c.significant-i.ensures, c.significant-j.ensures) (sym (less_exactly _ _ _ _ _))

pub loop-x-smaller : goal.loop-x-smaller
loop-x-smaller c =
    let s = figure_one _ _ c.next_digit.ensures c.in-One.is in
    omega arith

pub loop-x-preserved : goal.loop-x-preserved
loop-x-preserved c =
    let s = figure_one _ _ c.next_digit.ensures
    c.in-One.is in
    let t = figure_one _ _ c.next_digit-in-One.ensures c.in-One-next_digit.is in
    c.loop-x.invariant ∙ less_both _ s.split t.split c.then_order-o.ensures

pub returns-in-Nothing-next_digit : goal.returns-in-Nothing-next_digit
returns-in-Nothing-next_digit c =
    let s = figure_one _ _ c.next_digit.ensures
    c.in-One.is in
    sym (c.loop-x.invariant
    ∙ less_longer _ s.split (figure_none _ _ _ c.next_digit-in-One.ensures c.in-Nothing-next_digit.is))

pub returns-in-One-next_digit-2 : goal.returns-in-One-next_digit-2
returns-in-One-next_digit-2 c =
    let t = figure_one _ _ c.next_digit-in-Nothing.ensures c.in-One-next_digit-2.is in
    sym (c.loop-x.invariant
    ∙ less_shorter _ (figure_none _ _ _ c.next_digit.ensures
    c.in-Nothing.is) t.split)

pub returns-in-Nothing-next_digit-2 : goal.returns-in-Nothing-next_digit-2
returns-in-Nothing-next_digit-2 c =
    c.is_less.ensures ∙ sym (c.loop-x.invariant ∙ less_even _
    (figure_none _ _ _ c.next_digit.ensures c.in-Nothing.is)
    (figure_none _ _ _ c.next_digit-in-Nothing.ensures c.in-Nothing-next_digit-2.is))
