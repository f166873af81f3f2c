use mathlib.Core.Path.{refl, sym, ◌∙◌}
use native.Mathlib.Omega.{arith}
use mathlib.Core.Bool.{false}
use mathlib.Core.List.{[]}
use Rattle.contents.proofs.Goes.{step_on, text_next, text_over, text_end}
use Rattle.contents.proofs.text_in.Goals as goal

pub loop-g-init : goal.loop-g-init
loop-g-init c = (refl, c.requires)

pub returns-then-d-g : goal.returns-then-d-g
returns-then-d-g c = let a = c.args in
    sym (c.loop-g.invariant.0 ∙ text_end a.d.now c.loop-g.g (omega arith))

pub loop-g-smaller : goal.loop-g-smaller
loop-g-smaller c =
    let a = c.args in
    let o = step_on false a.d.now 2 [] c.loop-g.g _ _
    (sym c.step_alone.ensures ∙ c.in-More.is) in
    omega arith

pub loop-g-preserved : goal.loop-g-preserved
loop-g-preserved c =
    let a = c.args in
    let e = (sym c.step_alone.ensures ∙ c.in-More.is) in (
      c.loop-g.invariant.0 ∙ text_next a.d.now c.loop-g.g _ _ (omega arith) e,
      (step_on false a.d.now 2 [] c.loop-g.g _ _ e).1,
    )

pub returns-in-Over : goal.returns-in-Over
returns-in-Over c =
    let a = c.args in
    sym (c.loop-g.invariant.0
    ∙ text_over a.d.now c.loop-g.g _ (omega arith)
    (sym c.step_alone.ensures ∙ c.in-Over.is))
