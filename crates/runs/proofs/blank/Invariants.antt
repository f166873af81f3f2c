-- `runs::blank` meets its contract. The invariant: what is left to put gives the whole.
use mathlib.Core.Path.{◌≡◌}
use Prim.Native.Nat.{◌+◌, ◌-◌}
use Rattle.places.specs.rule.Places.{put, run}
use Rattle.fields.specs.rule.Field.{spaces}
use Rattle.runs.proofs.blank.Given as goal

abbrev pub invariant-loop-p : goal.invariant-loop-p
invariant-loop-p l = put l.out (run l.p (l.at + l.k - l.p)) (spaces (l.at + l.k - l.p)) ≡ put l.initial.out (run l.at l.k) (spaces l.k)
