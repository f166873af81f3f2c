-- `texts::pass_pairs` meets its contract. The invariant: what is left measures as if the pairs passed were counted.
use mathlib.Core.Path.{◌≡◌}
use Prim.Native.Nat.{ℕ, ◌+◌, ◌-◌, ◌≤◌}
use lib.ListN.{length}
use Rattle.scan.specs.rule.Text.{text}
use Rattle.marks.specs.declared.Inside.TheVariants.{Pair}
use Rattle.texts.specs.Measured.{measure_from}
use Rattle.texts.proofs.pass_pairs.Given as goal

abbrev pub invariant-loop-i : goal.invariant-loop-i
invariant-loop-i l = ((c : ℕ) → measure_from (Pair l.o) c (text l.s l.n) ≡ measure_from (Pair l.o) (c + l.count) (text l.s l.i))
    × (l.n + l.count ≤ l.i)
    × (l.n ≤ length l.s → l.i ≤ length l.s)

abbrev pub decreases-loop-i : goal.decreases-loop-i
decreases-loop-i l = length l.s - l.i
