use mathlib.Core.Path.{refl, sym, ◌∙◌}
use native.Mathlib.Omega.{arith}
use mathlib.Core.Bool.{false}
use mathlib.Core.List.{[]}
use Rattle.contents.proofs.Goes.{step_on}
use Rattle.contents.proofs.Tellings.{pass_silent, hear_break, hear_byte, hear_code, hear_over, hear_same}
use Rattle.contents.proofs.next_heard.Goals as goal

pub loop-going-init : goal.loop-going-init
loop-going-init c = (λ l. refl, c.requires)

pub loop-going-smaller : goal.loop-going-smaller
loop-going-smaller c =
    let a = c.args in
    let o = step_on false a.d.now 2 [] c.loop-going.g _ _
    (sym c.step_alone.ensures ∙ c.in-More.is) in
    omega arith

pub loop-going-preserved : goal.loop-going-preserved
loop-going-preserved c =
    let a = c.args in
    let e = (sym c.step_alone.ensures ∙ c.in-More.is) in
    let o = step_on false a.d.now 2 [] c.loop-going.g _ _ e in (
      λ l. c.loop-going.invariant.0 l ∙ pass_silent a.d.now c.loop-going.g _ _ e c.in-Nothing.is l,
      o.1,
    )

pub returns-in-Break : goal.returns-in-Break
returns-in-Break c =
    let a = c.args in
    hear_same a.d.now a.at c.loop-going.g _ c.loop-going.invariant.0 (hear_break a.d.now c.loop-going.g _ _
    (sym c.step_alone.ensures ∙ c.in-More.is) c.in-Break.is)

pub returns-in-Byte : goal.returns-in-Byte
returns-in-Byte c =
    let a = c.args in
    hear_same a.d.now a.at c.loop-going.g _ c.loop-going.invariant.0 (hear_byte a.d.now c.loop-going.g _ _
    (sym c.step_alone.ensures ∙ c.in-More.is) _ c.in-Byte.is)

pub returns-in-Code : goal.returns-in-Code
returns-in-Code c =
    let a = c.args in
    hear_same a.d.now a.at c.loop-going.g _ c.loop-going.invariant.0 (hear_code a.d.now c.loop-going.g _ _
    (sym c.step_alone.ensures ∙ c.in-More.is) _ c.in-Code.is)

pub returns-in-Over : goal.returns-in-Over
returns-in-Over c =
    let a = c.args in
    hear_same a.d.now a.at c.loop-going.g _ c.loop-going.invariant.0
    (hear_over a.d.now c.loop-going.g _ (sym c.step_alone.ensures ∙ c.in-Over.is))
