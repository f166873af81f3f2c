-- `marks::next_part` meets its contract. The invariant: what is said next from here on is what was from the start.
use mathlib.Core.Path.{◌≡◌}
use mathlib.Core.Bool.{true}
use Prim.Native.Nat.{◌-◌}
use lib.ListN.{length}
use Rattle.scan.specs.rule.Text.{text}
use Rattle.marks.specs.Spelling.{part_from}
use Rattle.marks.proofs.Parts.{half}
use Rattle.marks.proofs.next_part.Given as goal

abbrev pub invariant-loop-byte : goal.invariant-loop-byte
invariant-loop-byte l = (part_from l.initial.s 0 (text l.d l.at) ≡ part_from l.s l.a (text l.d l.n)) × (half l.s l.a ≡ true)

abbrev pub decreases-loop-byte : goal.decreases-loop-byte
decreases-loop-byte l = length l.d - l.n
