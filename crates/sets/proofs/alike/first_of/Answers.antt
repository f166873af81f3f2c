-- `sets::alike::first_of` meets its contract.
use mathlib.Core.Path.{sym, ◌∙◌}
use mir.Facts.{to_z-of_z}
use Rattle.sets.proofs.AlikeLaws.{first_low, first_high}
use Rattle.sets.proofs.alike.first_of.Goals as goal

pub returns-then-not_above : goal.returns-then-not_above
returns-then-not_above c = first_low _ (rw (to_z-of_z c.ranges.from) at (sym c.not_above.ensures ∙ c.if-not_above.true))

pub returns-else-not_above : goal.returns-else-not_above
returns-else-not_above c = rw (c.count_of.ensures, to_z-of_z c.ranges.from)
    (first_high _ (rw (to_z-of_z c.ranges.from) at
    (sym c.not_above.ensures ∙ c.if-not_above.false)))
