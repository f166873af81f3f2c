use mathlib.Core.Path.{refl, sym, ◌∙◌}
use native.Mathlib.Omega.{arith}
use Rattle.tags.proofs.Turns.{turn_on, turns_next, turns_over}
use Rattle.tags.proofs.read_turns.Goals as goal

pub loop-g-init : goal.loop-g-init
loop-g-init c = (refl, c.requires)

pub loop-g-smaller : goal.loop-g-smaller
loop-g-smaller c =
    let a = c.args in
    let l = turn_on a.bad a.d.now a.opened a.x.now a.y.now a.z.now a.f a.g a.k a.required
    c.loop-g.h _ (sym c.take_turn.ensures ∙ c.in-More.is) in
    omega arith

pub loop-g-preserved : goal.loop-g-preserved
loop-g-preserved c =
    let a = c.args in
    let e = sym c.take_turn.ensures ∙ c.in-More.is in (
      c.loop-g.invariant.0
          ∙ turns_next a.bad a.d.now a.opened a.x.now a.y.now a.z.now a.f a.g a.k a.required
          c.loop-g.h _ e,
      (turn_on a.bad a.d.now a.opened a.x.now a.y.now a.z.now a.f a.g a.k a.required
          c.loop-g.h _ e).1,
    )

pub returns-in-Over : goal.returns-in-Over
returns-in-Over c =
    let a = c.args in
    sym (c.loop-g.invariant.0
    ∙ turns_over a.bad a.d.now a.opened a.x.now a.y.now a.z.now a.f a.g a.k a.required
    c.loop-g.h _ (sym c.take_turn.ensures ∙ c.in-Over.is))
