-- `quotes::mark_among` meets its contract. The invariant: whether one of those looked at so far is a mark.
use mathlib.Core.Path.{◌≡◌}
use mathlib.Core.Bool.{◌||◌}
use Rattle.quotes.specs.Quotes.{is_mark, mark_among}
use Rattle.quotes.proofs.mark_among.Given as goal

abbrev pub invariant-loop-k : goal.invariant-loop-k
invariant-loop-k g l = (l.any_x || (l.any_y || l.any_z)) ≡ mark_among (is_mark l.x l.y l.z) l.s l.i l.k
