-- `import_lines::take_line` meets its contract. The invariant: the fields before a place, and what was made of them.
use mathlib.Core.Path.{◌≡◌}
use Prim.Native.Nat.{◌-◌}
use lib.ListN.{length}
use Rattle.fields.specs.rule.Field.{spaces}
use Rattle.import_lines.specs.Walk.{Walking}
use Rattle.import_lines.proofs.take_line.Given as goal

abbrev pub invariant-loop-span : goal.invariant-loop-span
invariant-loop-span l = Walking l.t l.rows l.d l.from l.at l.j l.bad (spaces l.len) l.bytes × (length l.list ≡ 9999)
    × (length l.room ≡ 50000) × (length l.spare ≡ 50000)
    × (length l.bytes ≡ l.len)

abbrev pub decreases-loop-span : goal.decreases-loop-span
decreases-loop-span l = length l.d - l.at
