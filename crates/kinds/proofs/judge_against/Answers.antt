use mathlib.Core.Path.{sym, ◌∙◌}
use Rattle.layout.specs.rule.Layout.{line_base, most_rows, most_lines}
use Rattle.values.proofs.Rooms.{unless_told}
use Rattle.kinds.specs.rule.Against.{against_of}
use Rattle.kinds.proofs.Rooms.{never, zero_against, long_refused}
use Rattle.kinds.proofs.judge_against.Goals as goal

pub returns-then-d-gt1048576 : goal.returns-then-d-gt1048576
unfolding against_of
returns-then-d-gt1048576 c =
    let e = long_refused c.args.d.now (line_base most_rows most_lines) c.if-d-gt1048576.true in
    rw e

pub judge_short-requires : goal.judge_short-requires
judge_short-requires c = (c.if-d-gt1048576.false, c.is_xml-xml.ensures)

pub judge_any-requires : goal.judge_any-requires
judge_any-requires c = (
  c.if-d-gt1048576.false,
  c.is_xml-xml.ensures,
)

pub returns-then-number-eq0 : goal.returns-then-number-eq0
returns-then-number-eq0 c = c.judge_any.ensures

pub returns-in-Same : goal.returns-in-Same
returns-in-Same c =
    let g = c.in-Same.is in
    sym g ∙ unless_told c.judge_short.ensures (λ s. let q = sym s ∙ g in never cc)

pub returns-in-Other : goal.returns-in-Other
returns-in-Other c =
    let g = c.in-Other.is in
    sym g ∙ unless_told c.judge_short.ensures (λ s. let q = sym s ∙ g in never cc)

pub returns-else-number-eq0 : goal.returns-else-number-eq0
returns-else-number-eq0 c =
    let g = c.in-Refused.is in
    sym g ∙ unless_told c.judge_short.ensures (λ s. c.if-number-eq0.false (zero_against (sym s ∙ g)))
