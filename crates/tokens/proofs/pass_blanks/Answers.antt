-- `tokens::pass_blanks` meets its contract.
use mathlib.Core.Path.{◌∙◌}
use native.Mathlib.Omega.{arith}
use Rattle.tokens.proofs.Gaps.{gap_blank, gap_two}
use Rattle.tokens.proofs.pass_blanks.Goals as goal

pub returns-then-d-at-lt18 : goal.returns-then-d-at-lt18
returns-then-d-at-lt18 c =
    let e = c.pass_on.ensures in
    (gap_blank _ _ (omega arith) (omega arith) ∙ e.0, omega (arith, e.1), e.2)

pub returns-then-d-at-gt32-2 : goal.returns-then-d-at-gt32-2
returns-then-d-at-gt32-2 c = (gap_blank _ _ (omega arith) (omega arith), omega arith, λ h. omega arith)

pub returns : goal.returns
returns c =
    let i = c.pass_indent-i.ensures in
    let e = c.pass_on-2.ensures in
    (gap_two _ _ _ (omega arith) (omega arith) (omega arith) (i.0 ∙ e.0), omega (arith, i.1, e.1), e.2)
