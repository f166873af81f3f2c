-- `pieces::low_from` meets its contract. The invariant: no byte before i is below 32.
use Rattle.lows.specs.Lows.{Clear}
use Rattle.pieces.proofs.low_from.Given as goal

abbrev pub invariant-loop-i : goal.invariant-loop-i
invariant-loop-i l = Clear l.d l.from l.i
