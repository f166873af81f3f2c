-- `setbytes::spread::put_spread` meets its contract. The invariant: what is left to put gives the whole.
use mathlib.Core.Path.{◌≡◌}
use Prim.Native.Nat.{◌+◌, ◌-◌, ◌*◌, ◌≤◌}
use lib.ListN.{length, drop}
use Rattle.places.specs.rule.Places.{put}
use Rattle.fields.specs.rule.Field.{spread_bytes}
use Rattle.fields.specs.rule.Row.{spread_places}
use Rattle.setbytes.proofs.spread.put_spread.Given as goal

abbrev pub invariant-loop-i : goal.invariant-loop-i
invariant-loop-i l = (l.at + (l.n - l.i) * l.b ≤ length l.initial.bytes)
    × (put l.bytes (spread_places l.at l.b l.w (l.n - l.i)) (spread_bytes l.w (l.n - l.i) (drop l.i l.list))
    ≡ put l.initial.bytes (spread_places l.start l.b l.w l.n) (spread_bytes l.w l.n l.list))
