-- `scan::read_digits` meets its contract. The invariant: what is left to read says what the whole says.
use mathlib.Core.Path.{◌≡◌}
use Prim.Native.Nat.{◌-◌, ◌≤◌}
use lib.ListN.{length}
use Rattle.scan.specs.rule.Text.{text}
use Rattle.scan.specs.Number.{digits_from}
use Rattle.scan.proofs.read_digits.Given as goal

abbrev pub invariant-loop-byte : goal.invariant-loop-byte
invariant-loop-byte l = (digits_from l.v 0 l.at (text l.d l.at) ≡ digits_from l.size l.count l.n (text l.d l.n))
    × (l.size ≤ 1000000000000000) × (l.count ≤ l.n)

abbrev pub decreases-loop-byte : goal.decreases-loop-byte
decreases-loop-byte l = length l.d - l.n
