-- `names::first_fault` meets its contract. The invariants: no row before j is wrong, and those rows have left their marks; no row before
-- i has the name of row j.
use mathlib.Core.Path.{◌≡◌}
use mathlib.Core.Bool.{false}
use Prim.Native.Nat.{◌-◌}
use lib.Dec.{eqb}
use lib.ListN.{get_or, length}
use Rattle.below.specs.rule.Below.{any_below}
use Rattle.names.specs.Clash.{fault_from, fault_of}
use Rattle.names.proofs.Clashes.{Marked}
use Rattle.names.proofs.first_fault.Given as goal

abbrev pub invariant-loop-i : goal.invariant-loop-i
invariant-loop-i l = any_below l.i (λ k. eqb (get_or l.keys k 0) l.key) ≡ false

abbrev pub invariant-loop-j : goal.invariant-loop-j
invariant-loop-j l = (fault_of l.keys l.count ≡ fault_from l.keys (l.count - l.j) l.j) × (length l.marks ≡ 2048) × Marked l.keys l.j l.marks
