-- `cuts::low_from` meets its contract. The invariant: no byte below 32 stands before.
use Rattle.lows.specs.Lows.{Clear}
use Rattle.cuts.proofs.low_from.Given as goal

abbrev pub invariant-loop-i : goal.invariant-loop-i
invariant-loop-i l = Clear l.d l.from l.i
