-- `texts::measure` meets its contract. The invariant: what is left, behind the signs counted, measures what the whole does.
use mathlib.Core.Path.{◌≡◌}
use Prim.Native.Nat.{◌-◌, ◌≤◌}
use lib.ListN.{length}
use Rattle.scan.specs.rule.Text.{text}
use Rattle.marks.specs.declared.Inside.TheVariants.{Plain}
use Rattle.texts.specs.Measured.{measure_from}
use Rattle.texts.proofs.measure.Given as goal

abbrev pub invariant-loop-k : goal.invariant-loop-k
invariant-loop-k l = (measure_from Plain 0 (text l.s l.at) ≡ measure_from l.inside l.count (text l.s l.n)) × (l.count ≤ l.n)
    × (l.n ≤ length l.s)

abbrev pub decreases-loop-k : goal.decreases-loop-k
decreases-loop-k l = length l.s - l.n
