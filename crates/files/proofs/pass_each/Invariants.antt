-- `files::pass_each` meets its contract. The invariant: what was passed leaves the verdict as it was.
use mathlib.Core.Path.{◌≡◌}
use Prim.Native.Nat.{◌-◌, ◌≤◌}
use lib.ListN.{length}
use Rattle.files.specs.Passed.{Passed}
use Rattle.files.proofs.pass_each.Given as goal

abbrev pub invariant-loop-from : goal.invariant-loop-from
invariant-loop-from l = (length l.scratch ≡ length l.initial.scratch) × (1 ≤ l.n)
    × Passed l.t l.d l.w l.first l.initial.from l.initial.n (record { from = l.from; clear = l.from; n = l.n })

abbrev pub decreases-loop-from : goal.decreases-loop-from
decreases-loop-from l = length l.d - l.from
