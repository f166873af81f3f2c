-- `sets::alike::last_of` meets its contract.
use mathlib.Core.Path.{◌≡◌, sym, ◌∙◌}
use lib.IntN.{pos}
use lib.Signed.{le_z}
use mir.Facts.{to_z-of_z}
use borrow.Author.Rules.{sfits_of}
use Rattle.sets.proofs.AlikeLaws.{last_all, last_none, last_inside}
use Rattle.sets.proofs.alike.last_of.Goals as goal
use Rattle.sets.proofs.alike.last_of.Goals.{After-not_above, After-not_above-2}

-- the position ends within the range, or past it
above : (c : After-not_above) → c.not_above.result ≡ le_z (pos c.args.w) c.args.to
above c = rw (
  c.not_above.ensures,
  to_z-of_z (sfits_of c.cell_of.type_inv),
  c.cell_of.ensures,
  to_z-of_z c.ranges.to,
)

below : (c : After-not_above-2) → c.not_above-2.result ≡ le_z c.args.to (pos 0)
below c = rw (c.not_above-2.ensures, to_z-of_z c.ranges.to)

pub returns-then-not_above : goal.returns-then-not_above
returns-then-not_above c = last_all _ _ (sym (above (goal.at.returns-then-not_above c).After-not_above) ∙ c.if-not_above.true)

pub returns-then-not_above-2 : goal.returns-then-not_above-2
returns-then-not_above-2 c = last_none _ _ (sym (below (goal.at.returns-then-not_above-2 c).After-not_above-2) ∙ c.if-not_above-2.true)

pub returns-else-not_above-2 : goal.returns-else-not_above-2
returns-else-not_above-2 c = rw (c.count_of.ensures, to_z-of_z c.ranges.to)
    (last_inside _ _ (sym (above (goal.at.returns-else-not_above-2 c).After-not_above) ∙ c.if-not_above.false)
    (sym (below (goal.at.returns-else-not_above-2 c).After-not_above-2) ∙ c.if-not_above-2.false))
