-- `definition::read_variables` meets its contract, by the invariant `Ran`.
use mathlib.Core.Path.{◌≡◌}
use Prim.Native.Nat.{◌-◌}
use lib.ListN.{length}
use Rattle.definition.proofs.Rans.{Ran}
use Rattle.definition.proofs.read_variables.Given as goal

abbrev pub invariant-loop-ident : goal.invariant-loop-ident
invariant-loop-ident l = Ran l.d l.initial.at l.initial.rows l.initial.lines l.at l.y l.seen l.rows l.lines
    × (length l.rows ≡ length l.initial.rows) × (length l.lines ≡ length l.initial.lines) × (length l.marks ≡ 16384)

abbrev pub decreases-loop-ident : goal.decreases-loop-ident
decreases-loop-ident l = 512 - l.y.rows
