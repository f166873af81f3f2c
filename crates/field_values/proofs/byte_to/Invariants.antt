-- `field_values::byte_to` meets its contract. The invariant: no byte b so far.
use mathlib.Core.Path.{◌≡◌}
use Prim.Native.Nat.{ℕ, ◌≤◌, ◌<◌}
use lib.ListN.{get_or}
use Rattle.field_values.proofs.byte_to.Given as goal

abbrev pub invariant-loop-i : goal.invariant-loop-i
invariant-loop-i l = (j : ℕ) → l.at ≤ j → j < l.i → get_or l.f j 0 ≡ l.b → ⊥
