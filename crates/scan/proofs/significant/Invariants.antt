-- `scan::significant` meets its contract. The invariant: what is left has the same digits behind its zeros.
use mathlib.Core.Path.{◌≡◌}
use Prim.Native.Nat.{◌-◌}
use lib.ListN.{length}
use Rattle.scan.specs.rule.Text.{text}
use Rattle.scan.specs.Order.{digits_to}
use Rattle.scan.specs.Order.{stripped}
use Rattle.scan.proofs.significant.Given as goal

abbrev pub invariant-loop-digit : goal.invariant-loop-digit
invariant-loop-digit l = stripped (digits_to l.end (text l.d l.at)) ≡ stripped (digits_to l.end (text l.d l.n))

abbrev pub decreases-loop-digit : goal.decreases-loop-digit
decreases-loop-digit l = length l.d - l.n
