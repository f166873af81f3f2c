-- `sets::bits::fill_each` meets its contract. The invariant: what is left to store, from here, gives the whole.
use mathlib.Core.Path.{◌≡◌}
use Prim.Native.Nat.{◌+◌, ◌≤◌}
use lib.ListN.{length}
use lib.Seq.{sets}
use Rattle.sets.specs.Full.{always}
use Rattle.sets.proofs.BitLaws.{rest_set}
use Rattle.sets.proofs.bits.fill_each.Given as goal

abbrev pub invariant-loop-i : goal.invariant-loop-i
invariant-loop-i l = (l.n + length (rest_set always l.w l.bytes l.at l.i) ≤ length l.initial.list)
    × (sets l.list l.n (rest_set always l.w l.bytes l.at l.i) ≡ sets l.initial.list 0 (rest_set always l.w l.bytes l.at 0))
