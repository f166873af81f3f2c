use mathlib.Core.Path.{sym, ap, ◌∙◌}
use native.Mathlib.Omega.{arith}
use lib.ListN.{length}
use Rattle.stretches.proofs.Outcomes.{begins, told_one, told_over}
use Rattle.filters.proofs.Summing.{sum_end, sum_next, sum_none}
use Rattle.filters.proofs.rest_sum.Goals as goal

pub returns-then-d-at : goal.returns-then-d-at
returns-then-d-at c = let a = c.args in sum_end a.latin a.d.now a.at a.before c.if-d-at.true

pub loop-sign-init : goal.loop-sign-init
loop-sign-init c =
    let a = c.args in
    let x = begins a.latin a.d.now a.at c.start_at-c.result c.start_at-c.ensures c.requires in
    (rw x.signs, record { next = x.next; small = x.small })

pub next_sign-requires : goal.next_sign-requires
next_sign-requires c = let r = c.loop-sign.invariant.1 in (r.next, r.small)

pub sum_with-sum-requires : goal.sum_with-sum-requires
sum_with-sum-requires c = c.folded.ensures.1

pub loop-sign-smaller : goal.loop-sign-smaller
loop-sign-smaller c = let s = told_one _ _ c.next_sign.ensures
    c.in-One.is in omega (arith, ap length s.split)

pub loop-sign-preserved : goal.loop-sign-preserved
loop-sign-preserved c =
    let l = c.loop-sign in
    let s = told_one _ _ c.next_sign.ensures c.in-One.is in (
      rw (c.sum_with-sum.ensures, c.folded.ensures.0) (l.invariant.0 ∙ sum_next l.sum s.split),
      record { next = s.next; small = s.small },
    )

pub returns-in-Over : goal.returns-in-Over
returns-in-Over c = let l = c.loop-sign in
    sym (l.invariant.0 ∙ sum_none l.sum (told_over c.next_sign.ensures c.in-Over.is))
