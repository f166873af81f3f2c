-- `import_passes::judge_lines` meets its contract. The invariant: so many records stand before a place.
use mathlib.Core.Path.{◌≡◌}
use Prim.Native.Nat.{◌+◌, ◌-◌}
use lib.ListN.{length}
use Rattle.import_passes.specs.Passes.{Judging}
use Rattle.import_passes.proofs.judge_lines.Given as goal

abbrev pub invariant-loop-at : goal.invariant-loop-at
invariant-loop-at l = Judging l.t l.d l.from l.at l.n × (length l.list ≡ 9999) × (length l.room ≡ 50000) × (length l.spare ≡ 50000)
    × (length l.slot ≡ l.len + 2)

abbrev pub decreases-loop-at : goal.decreases-loop-at
decreases-loop-at l = length l.d - l.at
