-- `setbytes::bits::put_bits` meets its contract. The invariant: what is left to put, after i categories and j members, gives the whole,
-- and the members that are left are some of the categories that are left.
use mathlib.Core.Path.{◌≡◌}
use Prim.Native.Nat.{◌≤◌}
use lib.ListN.{drop}
use Rattle.fields.specs.rule.Legal.{legal}
use Rattle.fields.specs.rule.Row.{defined, bit_places}
use Rattle.fields.specs.rule.Field.{bit_bytes}
use Rattle.places.specs.rule.Places.{put}
use Rattle.setbytes.proofs.BitSteps.{rest, Left}
use Rattle.setbytes.proofs.bits.put_bits.Given as goal

abbrev pub invariant-loop-i : goal.invariant-loop-i
invariant-loop-i l = (l.j ≤ l.i) × Left l.w l.i (drop l.j l.list)
    × (rest (legal l.t l.rows l.row) l.at l.w l.bytes l.list l.i l.j
    ≡ put l.initial.bytes (bit_places l.at (defined (legal l.t l.rows l.row) 1 l.w))
    (bit_bytes l.list (defined (legal l.t l.rows l.row) 1 l.w)))
