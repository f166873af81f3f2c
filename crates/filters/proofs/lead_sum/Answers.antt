use mathlib.Core.Path.{◌≡◌, refl, sym, ◌∙◌}
use Prim.Native.Nat.{◌<◌}
use native.Mathlib.Omega.{arith}
use lib.ListN.{length}
use Rattle.filters.proofs.Summing.{sum_plain}
use Rattle.filters.proofs.lead_sum.Goals as goal

pub loop-i-init : goal.loop-i-init
loop-i-init c latin = refl

pub returns-then-not-is_plain : goal.returns-then-not-is_plain
returns-then-not-is_plain c = record { again = c.loop-i.invariant; within = omega arith }

pub sum_with-sum-requires : goal.sum_with-sum-requires
sum_with-sum-requires c = omega arith

pub loop-i-preserved : goal.loop-i-preserved
loop-i-preserved c =
    let l = c.loop-i in
    let a = c.args in
    let h : l.i < length a.d.now = omega arith in
    let p = sym c.is_plain.ensures ∙ c.if-not-is_plain.false in
    λ latin. rw (c.sum_with-sum.ensures, c.upper.ensures)
    (l.invariant latin ∙ sum_plain latin a.d.now l.i l.sum h p)

pub returns : goal.returns
returns c =
    let e : c.loop-i.i ≡ length c.args.d.now = omega arith in
    record { again = rw e at c.loop-i.invariant; within = omega arith }
