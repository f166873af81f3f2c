-- `columns::mark_among` meets its contract. The invariant: whether one of those looked at so far is set.
use mathlib.Core.Path.{◌≡◌}
use Rattle.columns.specs.Stretch.{mark_among}
use Rattle.columns.proofs.mark_among.Given as goal

abbrev pub invariant-loop-k : goal.invariant-loop-k
invariant-loop-k l = l.any ≡ mark_among l.marks l.i l.k
