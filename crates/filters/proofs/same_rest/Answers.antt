use mathlib.Core.Path.{sym, ◌∙◌}
use Rattle.stretches.proofs.Outcomes.{begins}
use Rattle.filters.proofs.Meets.{met_is}
use Rattle.filters.proofs.same_rest.Goals as goal

pub loop-m-init : goal.loop-m-init
loop-m-init c =
    let a = c.args in
    let x = begins a.latin a.s.now a.p c.start_at-a.result c.start_at-a.ensures
    c.requires.0 in
    let y = begins a.latin a.t.now a.q c.start_at-b.result c.start_at-b.ensures
    c.requires.1 in
    (rw (x.signs, y.signs), record { next = x.next; small = x.small }, record { next = y.next; small = y.small })

pub meet-requires : goal.meet-requires
meet-requires c = (c.loop-m.invariant.1, c.loop-m.invariant.2)

pub loop-m-smaller : goal.loop-m-smaller
loop-m-smaller c = let x = met_is c.in-On.is c.meet.ensures in x.ahead.less

pub loop-m-preserved : goal.loop-m-preserved
loop-m-preserved c = let x = met_is c.in-On.is
    c.meet.ensures in (
      c.loop-m.invariant.0 ∙ x.says,
      x.ahead.first,
      x.ahead.second,
    )

pub returns-in-Over : goal.returns-in-Over
returns-in-Over c = let x = met_is c.in-Over.is c.meet.ensures in
    sym (c.loop-m.invariant.0 ∙ x.says)
