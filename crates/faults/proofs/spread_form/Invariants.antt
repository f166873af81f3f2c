-- `faults::spread_form` meets its contract. The invariant: the first from this subfield on is the first of all.
use mathlib.Core.Path.{◌≡◌}
use Prim.Native.Nat.{◌+◌, ◌-◌, ◌*◌, ◌≤◌}
use lib.ListN.{length}
use Rattle.fields.specs.rule.Row.{spread_places}
use Rattle.faults.specs.rule.Fault.{spread_form}
use Rattle.faults.proofs.spread_form.Given as goal

abbrev pub invariant-loop : goal.invariant-loop
invariant-loop l = (l.q + (l.n - l.counter) * l.b ≤ length l.bytes)
    × (spread_form l.w l.bytes (l.n - l.counter) (spread_places l.q l.b l.w (l.n - l.counter))
    ≡ spread_form l.w l.bytes l.n (spread_places l.at l.b l.w l.n))
