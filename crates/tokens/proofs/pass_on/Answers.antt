use mathlib.Core.Path.{◌≡◌, ◌∙◌}
use native.Mathlib.Omega.{arith}
use Rattle.tokens.proofs.Gaps.{gap_blank}
use Rattle.tokens.proofs.pass_on.Goals as goal

pub returns-then-d-i-gt32 : goal.returns-then-d-i-gt32
returns-then-d-i-gt32 c = (c.loop-i.invariant.0, omega arith, λ h. omega arith)

pub loop-i-preserved : goal.loop-i-preserved
loop-i-preserved c =
    let l = c.loop-i in
    (l.invariant.0 ∙ gap_blank _ l.i (omega arith) (omega arith), omega arith)

pub returns : goal.returns
returns c =
    let e : c.max.result ≡ c.loop-i.i = omega arith in
    (rw e c.loop-i.invariant.0, omega arith, λ h. absurd (omega arith))
