-- `fronts::items_of` meets its contract. The invariant: of each kind there is what was met, or what is found from here on.
use mathlib.Core.Path.{◌≡◌}
use mathlib.Core.Bool.{cond}
use Prim.Native.Nat.{◌-◌}
use Rattle.fronts.specs.Front.{item_found}
use Rattle.fronts.proofs.items_of.Given as goal

abbrev pub invariant-loop : goal.invariant-loop
invariant-loop l = (item_found 6 l.d l.start 0 ≡ cond l.m.date.there l.m.date (item_found (6 - l.counter) l.d l.m.next 0))
    × (item_found 6 l.d l.start 1 ≡ cond l.m.time.there l.m.time (item_found (6 - l.counter) l.d l.m.next 1))
    × (item_found 6 l.d l.start 2 ≡ cond l.m.origin.there l.m.origin (item_found (6 - l.counter) l.d l.m.next 2))
    × (item_found 6 l.d l.start 3 ≡ cond l.m.user.there l.m.user (item_found (6 - l.counter) l.d l.m.next 3))
    × (item_found 6 l.d l.start 4 ≡ cond l.m.standard.there l.m.standard (item_found (6 - l.counter) l.d l.m.next 4))
    × (item_found 6 l.d l.start 5 ≡ item_found (6 - l.counter) l.d l.m.next 5)
