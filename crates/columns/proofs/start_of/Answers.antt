-- `columns::start_of` meets its contract, case by case.
use mathlib.Core.Path.{◌≡◌, sym, ap, ◌∙◌}
use mathlib.Core.Bool.{false}
use lib.IntN.{ℤ, pos}
use lib.Signed.{le_z}
use mir.Facts.{to_z-of_z}
use Rattle.cells.specs.rule.Cell.{count_of}
use Rattle.columns.specs.Stretch.{starts_low, starts_at, starts_past}
use mir.Syntax.{w64}
use Rattle.columns.proofs.start_of.Goals as goal
use Rattle.columns.proofs.start_of.Goals.{After-count_of-k}

-- what the number counts as
counted : (c : After-count_of-k) → c.count_of-k.result ≡ count_of c.args.z
counted c = c.count_of-k.ensures ∙ ap count_of (to_z-of_z {w = w64} c.ranges.z)

-- it is above 0
above : (c : After-count_of-k) → le_z c.args.z (pos 0) ≡ false
above c = sym (c.not_above.ensures ∙ ap (λ (z : ℤ). le_z z (pos 0)) (to_z-of_z c.ranges.z))
    ∙ c.if-not_above.false

pub returns-then-not_above : goal.returns-then-not_above
returns-then-not_above c = starts_low _ _ (sym (c.not_above.ensures ∙ ap (λ (z : ℤ). le_z z (pos 0)) (to_z-of_z c.ranges.z))
    ∙ c.if-not_above.true)

pub returns-then-k-n : goal.returns-then-k-n
returns-then-k-n c =
    rw (counted (goal.at.returns-then-k-n c).After-count_of-k) (starts_at c.args.z _ (above (goal.at.returns-then-k-n c).After-count_of-k)
    (rw (counted (goal.at.returns-then-k-n c).After-count_of-k) at c.if-k-n.true) c.requires)

pub returns : goal.returns
returns c = starts_past c.args.z _ (above (goal.at.returns c).After-count_of-k)
    (rw (counted (goal.at.returns c).After-count_of-k) at c.if-k-n.false)
