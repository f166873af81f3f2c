use mathlib.Core.Path.{◌∙◌, sym}
use native.Mathlib.Omega.{arith}
use Rattle.scan.proofs.Texts.{from_text}
use Rattle.tokens.proofs.Gaps.{gap_less, gap_again, gap_done, pace_on, pace_over}
use Rattle.tokens.proofs.skip_gap.Goals as goal

-- a token that stands right behind the blanks
pub returns-then-token_at : goal.returns-then-token_at
returns-then-token_at c = sym (c.loop-at.invariant ∙ c.pass_blanks-place.ensures.0
    ∙ c.token_at.ensures c.if-token_at.true)

pub loop-at-smaller : goal.loop-at-smaller
loop-at-smaller c =
    let p = c.pass_blanks-place.ensures.1 in
    omega (arith, gap_less _ (from_text _ _) (pace_on (sym c.step_gap.ensures ∙ c.in-On.is)))

pub loop-at-preserved : goal.loop-at-preserved
loop-at-preserved c =
    c.loop-at.invariant ∙ c.pass_blanks-place.ensures.0
    ∙ gap_again _ _ (pace_on (sym c.step_gap.ensures ∙ c.in-On.is))

pub returns-in-Over : goal.returns-in-Over
returns-in-Over c =
    sym (c.loop-at.invariant ∙ c.pass_blanks-place.ensures.0
    ∙ gap_done _ _ (pace_over (sym c.step_gap.ensures ∙ c.in-Over.is)))

pub step_gap-requires : goal.step_gap-requires
step_gap-requires c = c.requires
