-- `looks::same_at` meets its contract. The invariant: if all bytes so far are the same, each of them stands where it should.
use mathlib.Core.Path.{◌≡◌}
use mathlib.Core.Bool.{true}
use Prim.Native.Nat.{ℕ, ◌+◌, ◌<◌}
use lib.ListN.{get_or}
use Rattle.looks.proofs.same_at.Given as goal

abbrev pub invariant-loop-i : goal.invariant-loop-i
invariant-loop-i l = l.same ≡ true → (j : ℕ) → j < l.i → get_or l.d (l.at + j) 0 ≡ get_or l.w j 0
