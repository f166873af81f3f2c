-- `value_fields::send_above` meets its contract. The invariant: what is left to send gives the whole.
use Prim.Native.Nat.{◌-◌}
use Rattle.sink.specs.Sent.{Owed}
use Rattle.few_codes.specs.Few.{above}
use Rattle.value_fields.specs.rule.Values.{codes_behind}
use Rattle.value_fields.specs.Few.{from_code}
use Rattle.value_fields.proofs.send_above.Given as goal

abbrev pub invariant-loop-c : goal.invariant-loop-c
invariant-loop-c l = Owed l.bound l.initial.out l.at (codes_behind (above l.room l.first)) l.out l.end (codes_behind (from_code l.room l.c))

abbrev pub decreases-loop-c : goal.decreases-loop-c
decreases-loop-c l = 65535 - l.c
