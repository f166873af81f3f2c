-- `scan::less` meets its contract. The invariant: the digits that are left decide as the whole does.
use mathlib.Core.Path.{◌≡◌}
use Prim.Native.Nat.{◌-◌}
use lib.Dec.{ltb}
use lib.ListN.{length}
use Rattle.scan.specs.rule.Text.{text}
use Rattle.scan.specs.Order.{digits_to, value_of}
use Rattle.scan.specs.Order.{less_of}
use Rattle.scan.proofs.less.Given as goal

abbrev pub invariant-loop-x : goal.invariant-loop-x
invariant-loop-x l = ltb (value_of l.d l.a l.aend) (value_of l.d l.b l.bend)
    ≡ less_of l.o (digits_to l.aend (text l.d l.i)) (digits_to l.bend (text l.d l.j))

abbrev pub decreases-loop-x : goal.decreases-loop-x
decreases-loop-x l = length l.d - l.i
