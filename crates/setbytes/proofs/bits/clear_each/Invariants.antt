-- `setbytes::bits::clear_each` meets its contract: as `put_bits` with no member, where every category is legal.
use mathlib.Core.Path.{◌≡◌}
use mathlib.Core.List.{[]}
use Rattle.fields.specs.rule.Row.{defined, bit_places}
use Rattle.fields.specs.rule.Field.{bit_bytes}
use Rattle.places.specs.rule.Places.{put}
use Rattle.sets.specs.Full.{always}
use Rattle.setbytes.proofs.BitSteps.{rest}
use Rattle.setbytes.proofs.bits.clear_each.Given as goal

abbrev pub invariant-loop-i : goal.invariant-loop-i
invariant-loop-i l = rest always l.at l.w l.bytes [] l.i 0 ≡ put l.initial.bytes (bit_places l.at (defined always 1 l.w))
    (bit_bytes [] (defined always 1 l.w))
