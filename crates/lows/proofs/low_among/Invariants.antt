-- `lows::low_among` meets its contract. The invariant: whether one of those looked at so far is below 32.
use mathlib.Core.Path.{◌≡◌}
use Rattle.lows.specs.Lows.{low_among}
use Rattle.lows.proofs.low_among.Given as goal

abbrev pub invariant-loop-k : goal.invariant-loop-k
invariant-loop-k g l = l.low ≡ low_among l.s l.i l.k
