use mathlib.Core.Path.{sym}
use Rattle.tokens.proofs.Gaps.{gap_token}
use Rattle.steps.specs.Step.{gap_past}
use Rattle.steps.specs.Quiet.{gap_to}
use Rattle.steps.proofs.past_gap.Goals as goal

pub returns-then-d-m-ne60 : goal.returns-then-d-m-ne60
returns-then-d-m-ne60 c =
    let p = c.pass_blanks-m in
    sym (gap_to _ _ _ p.ensures.0
    (gap_token _ _ c.if-m-d.true (p.ensures.2 c.if-m-d.true) c.if-d-m-ne60.true))

pub returns : goal.returns
unfolding gap_past
returns c = rw (c.place_in.ensures, c.skip_gap-t.ensures)
