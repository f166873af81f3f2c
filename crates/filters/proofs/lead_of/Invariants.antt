use Prim.Native.Nat.{◌-◌, ◌≤◌}
use lib.ListN.{length}
use Rattle.filters.proofs.Leads.{Shares}
use Rattle.filters.proofs.lead_of.Given as goal

abbrev pub invariant-loop-k : goal.invariant-loop-k
invariant-loop-k l = (l.k ≤ length l.t - l.q) × Shares l.standard l.s l.t l.p l.q l.k
