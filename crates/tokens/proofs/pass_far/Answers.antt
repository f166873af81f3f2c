use mathlib.Core.Path.{◌∙◌}
use native.Mathlib.Omega.{arith}
use Rattle.tokens.proofs.Spaces.{part_spaces, all_spaces_lem}
use Rattle.tokens.proofs.pass_far.Goals as goal

pub returns-then-x-ne0 : goal.returns-then-x-ne0
returns-then-x-ne0 c =
    let l = c.loop-i in
    (l.invariant.0 ∙ part_spaces _ _ _ _ c.bytes_clear.ensures.0 c.over_at-x.ensures, omega (arith, l.invariant.1))

pub loop-i-preserved : goal.loop-i-preserved
loop-i-preserved c =
    let l = c.loop-i in
    (l.invariant.0 ∙ all_spaces_lem _ _ _ (omega (arith, c.if-x-ne0.false)) c.over_at-x.ensures, omega (arith, l.invariant.1))

pub returns : goal.returns
returns c = c.loop-i.invariant
