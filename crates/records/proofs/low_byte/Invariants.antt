-- `records::low_byte` meets its contract. The invariant: the first from here is the first of all.
use mathlib.Core.Path.{◌≡◌}
use Prim.Native.Nat.{◌-◌}
use lib.ListN.{length}
use Rattle.lows.specs.rule.Lows.{low_at}
use Rattle.records.specs.rule.First.{first_from}
use Rattle.records.proofs.low_byte.Given as goal

abbrev pub invariant-loop-i : goal.invariant-loop-i
invariant-loop-i l = first_from (low_at l.bytes) l.i (length l.bytes - l.i) ≡ first_from (low_at l.bytes) 0 (length l.bytes)
