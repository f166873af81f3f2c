-- `pieces::low_among_many` meets its contract. The invariant: if none was found so far, none is below 32 where it was looked.
use mathlib.Core.Path.{◌≡◌}
use mathlib.Core.Bool.{false}
use Rattle.pieces.specs.Scan.{Minima}
use Rattle.pieces.proofs.low_among_many.Given as goal

abbrev pub invariant-loop-k : goal.invariant-loop-k
invariant-loop-k l = l.low ≡ false → Minima l.d l.i 16 l.k
