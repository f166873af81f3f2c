-- `columns::end_of` meets its contract, case by case.
use mathlib.Core.Path.{◌≡◌, sym, ap, ◌∙◌}
use lib.IntN.{ℤ, pos}
use lib.Signed.{le_z}
use mir.Facts.{to_z-of_z}
use Rattle.cells.specs.rule.Cell.{count_of}
use Rattle.columns.specs.Stretch.{ends_none, ends_at, ends_past}
use mir.Syntax.{w64}
use Rattle.columns.proofs.end_of.Goals as goal
use Rattle.columns.proofs.end_of.Goals.{After-count_of-k}

-- what the number counts as
counted : (c : After-count_of-k) → c.count_of-k.result ≡ count_of c.args.z
counted c = c.count_of-k.ensures ∙ ap count_of (to_z-of_z {w = w64} c.ranges.z)

pub returns-then-k-n : goal.returns-then-k-n
returns-then-k-n c = rw (counted (goal.at.returns-then-k-n c).After-count_of-k)
    (ends_at c.args.z _ (rw (counted (goal.at.returns-then-k-n c).After-count_of-k) at c.if-k-n.true)
    c.requires)

pub returns-then-not_above : goal.returns-then-not_above
returns-then-not_above c =
    ends_past c.args.z _
    (sym (c.not_above.ensures
    ∙ ap (λ (z : ℤ). le_z (pos 0) z) (to_z-of_z c.ranges.z)) ∙ c.if-not_above.true)
    (rw (counted (goal.at.returns-then-not_above c).After-count_of-k) at c.if-k-n.false)

pub returns : goal.returns
returns c = ends_none c.args.z _
    (sym (c.not_above.ensures ∙ ap (λ (z : ℤ). le_z (pos 0) z) (to_z-of_z c.ranges.z)) ∙ c.if-not_above.false)
