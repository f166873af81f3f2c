-- `setbytes::spread::blank_spread` meets its contract. The invariant: what is left to put gives the whole.
use mathlib.Core.Path.{◌≡◌}
use Prim.Native.Nat.{◌+◌, ◌-◌, ◌*◌, ◌≤◌}
use lib.ListN.{length}
use Rattle.places.specs.rule.Places.{put}
use Rattle.fields.specs.rule.Field.{spaces}
use Rattle.fields.specs.rule.Row.{spread_places}
use Rattle.setbytes.proofs.spread.blank_spread.Given as goal

abbrev pub invariant-loop : goal.invariant-loop
invariant-loop l = (l.at + (l.n - l.counter) * l.b ≤ length l.initial.bytes)
    × (put l.bytes (spread_places l.at l.b l.w (l.n - l.counter)) (spaces (length (spread_places l.at l.b l.w (l.n - l.counter))))
    ≡ put l.initial.bytes (spread_places l.start l.b l.w l.n) (spaces (length (spread_places l.start l.b l.w l.n))))
