use mathlib.Core.Path.{◌≡◌}
use Prim.Native.Nat.{◌-◌, ◌≤◌}
use lib.ListN.{length}
use Rattle.tags.specs.rule.Tag.{turns_of}
use Rattle.tags.proofs.read_turns.Given as goal

abbrev pub invariant-loop-g : goal.invariant-loop-g
invariant-loop-g l = (turns_of l.bad l.d l.opened l.x l.y l.z l.f l.g l.k l.required l.initial.h
    ≡ turns_of l.bad l.d l.opened l.x l.y l.z l.f l.g l.k l.required l.h) × (l.h.next ≤ length l.d)

abbrev pub decreases-loop-g : goal.decreases-loop-g
decreases-loop-g l = length l.d - l.h.next
