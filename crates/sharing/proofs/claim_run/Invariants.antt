-- `sharing::claim_run` meets its contract. The invariant: what comes of the places that are left comes of all.
use Prim.Native.Nat.{◌-◌}
use Rattle.places.specs.rule.Places.{run}
use Rattle.sharing.proofs.Steps.{Onward}
use Rattle.sharing.proofs.claim_run.Given as goal

abbrev pub invariant-loop-p : goal.invariant-loop-p
invariant-loop-p l = Onward l.own (run l.at l.n) l.initial.stamps (run l.p (l.p-end - l.p)) l.stamps
