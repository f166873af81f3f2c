-- `setbytes::bits::blank_bits` meets its contract. The invariant: what is left to put gives the whole.
use mathlib.Core.Path.{◌≡◌}
use lib.ListN.{length}
use Rattle.fields.specs.rule.Legal.{legal}
use Rattle.fields.specs.rule.Row.{defined, bit_places}
use Rattle.fields.specs.rule.Field.{spaces}
use Rattle.places.specs.rule.Places.{put}
use Rattle.setbytes.proofs.BitSteps.{rest_blank}
use Rattle.setbytes.proofs.bits.blank_bits.Given as goal

abbrev pub invariant-loop-k : goal.invariant-loop-k
invariant-loop-k l = rest_blank (legal l.t l.rows l.row) l.at l.w l.bytes l.k
    ≡ put l.initial.bytes (bit_places l.at (defined (legal l.t l.rows l.row) 1 l.w))
    (spaces (length (bit_places l.at (defined (legal l.t l.rows l.row) 1 l.w))))
