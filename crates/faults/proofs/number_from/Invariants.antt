-- `faults::number_from` meets its contract. The invariant: the first from here, after the bytes passed, is the first of all; and it is
-- known whether those were all spaces.
use mathlib.Core.Path.{◌≡◌}
use mathlib.Core.List.{[]}
use Prim.Native.Nat.{◌+◌, ◌-◌}
use Rattle.places.specs.rule.Places.{pick, run}
use Rattle.fields.specs.rule.Number.{all_spaces}
use Rattle.faults.specs.rule.Fault.{number_from}
use Rattle.faults.proofs.number_from.Given as goal

abbrev pub invariant-loop-i : goal.invariant-loop-i
invariant-loop-i l = (l.«open» ≡ all_spaces (pick l.bytes (run l.at l.i)))
    × (number_from l.quantity l.f l.bytes (pick l.bytes (run l.at l.i)) (run (l.at + l.i) (l.w - l.i))
    ≡ number_from l.quantity l.f l.bytes [] (run l.at l.w))
