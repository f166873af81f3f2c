-- `scan::next_digit` meets its contract. The invariant: the first digit of what is left is the first of the whole.
use mathlib.Core.Path.{◌≡◌}
use Prim.Native.Nat.{◌-◌}
use lib.ListN.{length}
use Rattle.scan.specs.rule.Text.{text}
use Rattle.scan.specs.Order.{figure_of}
use Rattle.scan.proofs.next_digit.Given as goal

abbrev pub invariant-loop-byte : goal.invariant-loop-byte
invariant-loop-byte l = figure_of l.end (text l.d l.at) ≡ figure_of l.end (text l.d l.n)

abbrev pub decreases-loop-byte : goal.decreases-loop-byte
decreases-loop-byte l = length l.d - l.n
