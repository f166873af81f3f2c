use mathlib.Core.Path.{◌≡◌, sym, ap, ◌∙◌}
use native.Mathlib.Omega.{arith}
use lib.ListN.{length}
use Rattle.markup.specs.rule.Bytes.{is_white}
use Rattle.markup.proofs.Whites.{whites_none, whites_next, whites_over, mark_black}
use Rattle.markup.proofs.pass_white.Goals as goal

pub returns-then-d-at : goal.returns-then-d-at
returns-then-d-at c = whites_over _ _ (whites_none _ _ (omega arith)) (λ h. absurd (omega arith))

pub returns-then-d-at-eq60 : goal.returns-then-d-at-eq60
returns-then-d-at-eq60 c = whites_over _ _ (whites_none _ _ (omega arith)) (λ h. ap is_white c.if-d-at-eq60.true ∙ mark_black)

pub loop-i-init : goal.loop-i-init
loop-i-init c = c.pass_line-i.ensures

pub loop-i-preserved : goal.loop-i-preserved
loop-i-preserved c = let l = c.loop-i in
    whites_next _ _ l.i l.invariant (omega arith) (sym c.is_white.ensures ∙ c.if-not-is_white.false)

pub returns-then-not-is_white : goal.returns-then-not-is_white
returns-then-not-is_white c = whites_over _ _ c.loop-i.invariant (λ h. sym c.is_white.ensures ∙ c.if-not-is_white.true)

pub returns : goal.returns
returns c =
    let w = c.loop-i.invariant.within in
    let e : c.loop-i.i ≡ length c.args.d.now = omega arith in
    rw e at (whites_over _ _ c.loop-i.invariant (λ h. absurd (omega arith)))
