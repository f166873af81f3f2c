-- `value_fields::first_set` meets its contract. The invariant: no category before byte i is set.
use mathlib.Core.Path.{◌≡◌}
use Rattle.value_fields.specs.Legal.{bits_from}
use Rattle.value_fields.proofs.first_set.Given as goal

abbrev pub invariant-loop-i : goal.invariant-loop-i
invariant-loop-i l = bits_from l.w l.bytes l.p 0 ≡ bits_from l.w l.bytes l.p l.i
