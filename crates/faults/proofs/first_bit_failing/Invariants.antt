-- `faults::first_bit_failing` meets its contract. The invariant: the first from here is the first of all.
use mathlib.Core.Path.{◌≡◌}
use Rattle.fields.specs.rule.Legal.{legal}
use Rattle.fields.specs.rule.Row.{defined, bit_places}
use Rattle.faults.specs.rule.Fault.{first_failing}
use Rattle.faults.proofs.Laws.{bits_from}
use Rattle.faults.proofs.first_bit_failing.Given as goal

abbrev pub invariant-loop-i : goal.invariant-loop-i
invariant-loop-i l = bits_from l.x (legal l.t l.rows l.row) l.bytes l.at l.w l.i l.i
    ≡ first_failing l.x l.bytes (bit_places l.at (defined (legal l.t l.rows l.row) 1 l.w))
