-- `texts::pass_plain` meets its contract. The invariant: what is left measures as if the signs passed were counted.
use mathlib.Core.Path.{◌≡◌}
use Prim.Native.Nat.{ℕ, ◌+◌, ◌-◌, ◌≤◌}
use lib.ListN.{length}
use Rattle.scan.specs.rule.Text.{text}
use Rattle.marks.specs.declared.Inside.TheVariants.{Plain}
use Rattle.texts.specs.Measured.{measure_from}
use Rattle.texts.proofs.pass_plain.Given as goal

abbrev pub invariant-loop-i : goal.invariant-loop-i
invariant-loop-i l = ((c : ℕ) → measure_from Plain c (text l.s l.n) ≡ measure_from Plain (c + l.count) (text l.s l.i))
    × (l.n + l.count ≤ l.i)
    × (l.n ≤ length l.s → l.i ≤ length l.s)

abbrev pub decreases-loop-i : goal.decreases-loop-i
decreases-loop-i l = length l.s - l.i
