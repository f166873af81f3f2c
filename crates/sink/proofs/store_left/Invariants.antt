-- `sink::store_left` meets its contract. The invariant: what is left to store gives the whole.
use mathlib.Core.Path.{◌≡◌}
use Prim.Native.Nat.{◌+◌, ◌≤◌}
use lib.ListN.{length, drop}
use lib.Seq.{sets}
use Rattle.sink.proofs.store_left.Given as goal

abbrev pub invariant-loop-k : goal.invariant-loop-k
invariant-loop-k l = (l.i + l.k ≤ length l.s)
    × (sets l.out (l.at + (l.i + l.k)) (drop (l.i + l.k) l.s) ≡ sets l.initial.out (l.at + l.i) (drop l.i l.s))
