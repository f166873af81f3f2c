-- `faults::spread_value` meets its contract. The invariant: the first from this subfield on is the first of all.
use mathlib.Core.Path.{◌≡◌}
use Prim.Native.Nat.{◌+◌, ◌-◌, ◌*◌, ◌≤◌}
use lib.ListN.{length}
use Rattle.fields.specs.rule.Legal.{legal}
use Rattle.fields.specs.rule.Row.{spread_places}
use Rattle.faults.specs.rule.Fault.{spread_value}
use Rattle.faults.proofs.spread_value.Given as goal

abbrev pub invariant-loop : goal.invariant-loop
invariant-loop l = (l.q + (l.n - l.counter) * l.b ≤ length l.bytes)
    × (spread_value (legal l.t l.rows l.row) l.w l.bytes (l.n - l.counter) (spread_places l.q l.b l.w (l.n - l.counter))
    ≡ spread_value (legal l.t l.rows l.row) l.w l.bytes l.n (spread_places l.at l.b l.w l.n))
