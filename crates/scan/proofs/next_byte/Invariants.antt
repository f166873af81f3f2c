-- `scan::next_byte` meets its contract. The invariant: what is left to read is what was left at the start.
use mathlib.Core.Path.{◌≡◌}
use Prim.Native.Nat.{◌≤◌, max}
use lib.ListN.{length}
use Rattle.scan.specs.rule.Text.{text}
use Rattle.scan.proofs.next_byte.Given as goal

abbrev pub invariant-loop-i : goal.invariant-loop-i
invariant-loop-i l = (text l.d l.at ≡ text l.d l.i) × (l.i ≤ max l.at (length l.d))
