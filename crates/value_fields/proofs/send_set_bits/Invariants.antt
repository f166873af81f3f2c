-- `value_fields::send_set_bits` meets its contract. The invariant: what is left to send gives the whole.
use Rattle.sink.specs.Sent.{Owed}
use Rattle.value_fields.specs.rule.Values.{codes_behind}
use Rattle.value_fields.specs.Legal.{bits_from}
use Rattle.value_fields.proofs.send_set_bits.Given as goal

abbrev pub invariant-loop-i : goal.invariant-loop-i
invariant-loop-i l = Owed l.bound l.initial.out l.at (codes_behind (bits_from l.w l.bytes l.p l.c)) l.out l.end
    (codes_behind (bits_from l.w l.bytes l.p l.i))
