-- `sharing::claim_spread` meets its contract. The invariant: what comes of the subfields that are left comes of all.
use Prim.Native.Nat.{◌+◌, ◌-◌, ◌*◌, ◌≤◌}
use lib.ListN.{length}
use Rattle.fields.specs.rule.Row.{spread_places}
use Rattle.sharing.proofs.Steps.{Onward}
use Rattle.sharing.proofs.claim_spread.Given as goal

abbrev pub invariant-loop : goal.invariant-loop
invariant-loop l = (l.q + (l.n - l.counter) * l.b ≤ length l.initial.stamps)
    × Onward l.own (spread_places l.at l.b l.w l.n) l.initial.stamps (spread_places l.q l.b l.w (l.n - l.counter)) l.stamps
