-- `sets::bits::count_set` meets its contract. The invariant: the count and what is left to count give the whole.
use mathlib.Core.Path.{◌≡◌}
use Prim.Native.Nat.{◌+◌, ◌≤◌}
use lib.ListN.{length}
use Rattle.fields.specs.rule.Legal.{legal}
use Rattle.sets.proofs.BitLaws.{rest_set}
use Rattle.sets.proofs.bits.count_set.Given as goal

abbrev pub invariant-loop-i : goal.invariant-loop-i
invariant-loop-i l = (l.n ≤ l.i) × (l.n + length (rest_set (legal l.t l.rows l.row) l.w l.bytes l.at l.i)
    ≡ length (rest_set (legal l.t l.rows l.row) l.w l.bytes l.at 0))
