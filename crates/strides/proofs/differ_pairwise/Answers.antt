use mathlib.Core.Path.{◌≡◌, sym, ◌∙◌}
use native.Mathlib.Omega.{arith}
use Rattle.below.specs.Below.{all_none, all_more, all_fails}
use Rattle.strides.specs.rule.Stride.{all_differ}
use Rattle.strides.proofs.differ_pairwise.Goals as goal

pub loop-k-init : goal.loop-k-init
loop-k-init c = all_none _

pub returns-then-not-number_new : goal.returns-then-not-number_new
unfolding all_differ
returns-then-not-number_new c = sym (all_fails _ _ c.loop-k.k (omega arith)
    (sym c.number_new.ensures ∙ c.if-not-number_new.true))

pub loop-k-preserved : goal.loop-k-preserved
loop-k-preserved c = all_more _ _ c.loop-k.invariant (sym c.number_new.ensures ∙ c.if-not-number_new.false)

pub returns : goal.returns
unfolding all_differ
returns c =
    let e : c.loop-k.k ≡ c.args.n = omega arith in
    sym (rw e at c.loop-k.invariant)
