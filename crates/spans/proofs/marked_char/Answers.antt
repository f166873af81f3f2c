use mathlib.Core.Path.{refl, sym, ◌∙◌}
use native.Mathlib.Omega.{arith}
use Rattle.spans.proofs.Hearing.{part_passed, first_next, first_stop}
use Rattle.spans.proofs.marked_char.Goals as goal

pub loop-m-init : goal.loop-m-init
loop-m-init c = (refl, omega arith)

pub loop-m-smaller : goal.loop-m-smaller
loop-m-smaller c =
    let a = c.args in
    let g = part_passed a.s.now c.loop-m.n _
    (sym c.part_in.ensures ∙ c.in-Passed.is) in
    let x = g.place in
    let y = g.some in
    let z = g.within in
    omega arith

pub loop-m-preserved : goal.loop-m-preserved
loop-m-preserved c =
    let a = c.args in
    let e = sym c.part_in.ensures ∙ c.in-Passed.is in (
      c.loop-m.invariant.0 ∙ first_next a.s.now c.loop-m.n _ e,
      (part_passed a.s.now c.loop-m.n _ e).within,
    )

pub returns-in-Stop : goal.returns-in-Stop
returns-in-Stop c =
    let a = c.args in
    sym (c.loop-m.invariant.0
    ∙ first_stop a.s.now c.loop-m.n _
    (sym c.part_in.ensures ∙ c.in-Stop.is))
