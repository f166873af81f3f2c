-- `numbers::digits_after` meets its contract. The invariant: what is left says, after the value, what the whole says after n; and the
-- value leaves room for it.
use mathlib.Core.Path.{◌≡◌}
use Prim.Native.Nat.{◌+◌, ◌-◌, ◌*◌, ◌^◌, ◌≤◌}
use lib.ListN.{length, drop}
use Rattle.numbers.specs.Numeral.{digits_read}
use Rattle.numbers.proofs.digits_after.Given as goal

abbrev pub invariant-loop-b : goal.invariant-loop-b
invariant-loop-b l = ((l.value + 1) * 10 ^ (length l.s - l.b-index) ≤ 10 ^ 18)
    × (digits_read l.value (drop l.b-index l.s) ≡ digits_read l.n l.s)
