-- `field_judges::judge_spread` meets its contract.
use mathlib.Core.Path.{◌≡◌, ap, ◌∙◌}
use native.Mathlib.Omega.{arith}
use borrow.Author.Rules.{rules}
use borrow.Author.Tests.{not-false}
use mir.Syntax.{w64}
use mir.Val.{to_z, of_z}
use Rattle.cells.specs.rule.Cell.{count_of}
use Rattle.field_judges.specs.Judged.{judged_none, judged_some, spread_stands, codes_fit, range_between}
use Rattle.field_judges.proofs.judge_spread.Goals as goal
use Rattle.field_judges.proofs.judge_spread.Goals.{After-struct_told-1, After-struct_told-2-1}

-- the row's numbers are read back from their bits as they are
from_back : (c : After-struct_told-1) → to_z w64 (of_z w64 c.args.row.from) ≡ c.args.row.from
from_back c = search rules

to_back : (c : After-struct_told-2-1) → to_z w64 (of_z w64 c.args.row.to)
    ≡ c.args.row.to
to_back c = search rules

pub codes_to-to-requires : goal.codes_to-to-requires
codes_to-to-requires c = (
  c.requires.1,
  omega (arith, c.if-low-eq0.false),
)

pub overflow_add-result : goal.overflow_add-result
overflow_add-result c = let stop = c.stops.ensures c.if-not-stops.false in
    omega (
      arith,
      stop.within,
      c.well_formed.1.1.1.1.1.0,
    )

pub returns : goal.returns
returns c =
    let stop = c.stops.ensures c.if-not-stops.false in
    let k = c.codes_to-to.ensures c.if-to-at.false in
    let low-is = c.count_of-low.ensures ∙ ap count_of (from_back (goal.at.returns c).After-struct_told-1) in
    let high_is = c.count_of-high.ensures ∙ ap count_of (to_back (goal.at.returns c).After-struct_told-2-1) in
    judged_some (spread_stands _ _ _ stop k.ms c.requires.0
    (codes_fit _ _ _ k (λ x l h. range_between _ _ _ (not-false _ c.if-not-row.false) (omega (arith, high_is, c.if-high-gt9999.false)) x
    (omega (arith, l, low-is)) (omega (arith, h, high_is)))) k.few k.reads)

pub returns-then-not-row : goal.returns-then-not-row
returns-then-not-row c = judged_none _ _ _ _ _

pub returns-then-low-eq0 : goal.returns-then-low-eq0
returns-then-low-eq0 c = judged_none _ _ _ _ _

pub returns-then-high-gt9999 : goal.returns-then-high-gt9999
returns-then-high-gt9999 c = judged_none _ _ _ _ _

pub returns-then-to-at : goal.returns-then-to-at
returns-then-to-at c = judged_none _ _ _ _ _

pub returns-then-not-stops : goal.returns-then-not-stops
returns-then-not-stops c = judged_none _ _ _ _ _
