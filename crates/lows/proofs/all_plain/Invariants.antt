-- `lows::all_plain` meets its contract. The invariant: no byte before i is below 32.
use Rattle.lows.specs.Lows.{Clear}
use Rattle.lows.proofs.all_plain.Given as goal

abbrev pub invariant-loop-i : goal.invariant-loop-i
invariant-loop-i l = Clear l.s 0 l.i
