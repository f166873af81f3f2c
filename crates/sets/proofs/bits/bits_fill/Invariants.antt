-- `sets::bits::bits_fill` meets its contract. The invariant: what is left to store, from here, gives the whole.
use mathlib.Core.Path.{◌≡◌}
use Prim.Native.Nat.{◌+◌, ◌≤◌}
use lib.ListN.{length}
use Rattle.fields.specs.rule.Legal.{legal}
use lib.Seq.{sets}
use Rattle.sets.proofs.BitLaws.{rest_set}
use Rattle.sets.proofs.bits.bits_fill.Given as goal

abbrev pub invariant-loop-i : goal.invariant-loop-i
invariant-loop-i l = (l.n + length (rest_set (legal l.t l.rows l.row) l.w l.bytes l.at l.i) ≤ length l.initial.list)
    × (sets l.list l.n (rest_set (legal l.t l.rows l.row) l.w l.bytes l.at l.i)
    ≡ sets l.initial.list 0 (rest_set (legal l.t l.rows l.row) l.w l.bytes l.at 0))
