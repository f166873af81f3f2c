-- `import_lines::judge_line` meets its contract.
use mathlib.Core.Path.{◌≡◌}
use Prim.Native.Nat.{◌-◌}
use lib.ListN.{length}
use Rattle.fields.specs.rule.Field.{spaces}
use Rattle.import_lines.specs.Judge.{WalkingOn}
use Rattle.import_lines.proofs.judge_line.Given as goal

abbrev pub invariant-loop-span : goal.invariant-loop-span
invariant-loop-span l = WalkingOn l.t l.rows l.d l.from l.at l.j l.bad (spaces l.len) × (length l.list ≡ 9999) × (length l.room ≡ 50000)
    × (length l.spare ≡ 50000)
    × (length l.bytes ≡ length l.initial.bytes)

abbrev pub decreases-loop-span : goal.decreases-loop-span
decreases-loop-span l = length l.d - l.at
