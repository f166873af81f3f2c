use mathlib.Core.Path.{refl, sym, ◌∙◌}
use native.Mathlib.Omega.{arith}
use Rattle.attributes.proofs.Values.{value_go, value_next, value_stop}
use Rattle.attributes.proofs.quoted.Goals as goal

pub loop-m-init : goal.loop-m-init
loop-m-init c = (refl, omega arith)

pub loop-m-smaller : goal.loop-m-smaller
loop-m-smaller c =
    let a = c.args in
    let g = value_go a.bad a.opened a.quote a.d.now c.loop-m.n _
    (sym c.move_value.ensures ∙ c.in-Go.is) in
    let x = g.place in
    let y = g.some in
    let z = g.within in
    omega arith

pub loop-m-preserved : goal.loop-m-preserved
loop-m-preserved c =
    let a = c.args in
    let e = sym c.move_value.ensures ∙ c.in-Go.is in (
      c.loop-m.invariant.0
          ∙ value_next a.bad a.opened a.quote a.d.now c.loop-m.n _ e,
      (value_go a.bad a.opened a.quote a.d.now c.loop-m.n _ e).within,
    )

pub returns-in-Stop : goal.returns-in-Stop
returns-in-Stop c =
    let a = c.args in
    sym (c.loop-m.invariant.0
    ∙ value_stop a.bad a.opened a.quote a.d.now c.loop-m.n _
    (sym c.move_value.ensures ∙ c.in-Stop.is))
