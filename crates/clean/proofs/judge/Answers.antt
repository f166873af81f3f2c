use mathlib.Core.Path.{sym, ◌∙◌}
use Rattle.values.proofs.Rooms.{unless_told}
use Rattle.bridge.specs.Lowest.{never}
use Rattle.clean.specs.Law.{zero_against}
use Rattle.clean.proofs.judge.Goals as goal

pub returns-then-number-eq0 : goal.returns-then-number-eq0
returns-then-number-eq0 c = c.judge_against.ensures

pub returns-in-Same : goal.returns-in-Same
returns-in-Same c =
    let g = c.in-Same.is in
    sym g ∙ unless_told c.judge_short.ensures (λ s. let q = sym s ∙ g in never cc)

pub returns-in-Other : goal.returns-in-Other
returns-in-Other c =
    let g = c.in-Other.is in
    sym g ∙ unless_told c.judge_short.ensures (λ s. let q = sym s ∙ g in never cc)

pub returns-else-number-eq0 : goal.returns-else-number-eq0
returns-else-number-eq0 c =
    let g = c.in-Refused.is in
    sym g ∙ unless_told c.judge_short.ensures (λ s. c.if-number-eq0.false (zero_against (sym s ∙ g)))
