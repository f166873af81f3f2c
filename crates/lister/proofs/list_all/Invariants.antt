-- `lister::list_all` is safe and ends: a line fits at each turn, and each turn leads to a place further on.
use mathlib.Core.Path.{◌≡◌}
use Prim.Native.Nat.{◌+◌, ◌≤◌}
use lib.ListN.{length}
use Rattle.lines.specs.rule.Lines.{line_room}
use Rattle.listing.specs.rule.Places.{PlaceGood, turns_left}
use Rattle.lister.proofs.list_all.Given as goal

abbrev pub invariant-loop-place : goal.invariant-loop-place
invariant-loop-place g l = (length l.list ≡ length l.initial.list) × (length l.scratch ≡ length l.initial.scratch)
    × (length l.out ≡ length l.initial.out) × (l.at + line_room ≤ length l.out)
    × PlaceGood l.d l.p

abbrev pub decreases-loop-place : goal.decreases-loop-place
decreases-loop-place g l = turns_left l.t l.d l.p
