-- `value_fields::send_others` meets its contract. The invariant: what is left to send gives the whole.
use lib.ListN.{take, drop}
use Rattle.value_fields.specs.rule.Values.{codes_behind}
use Rattle.sink.specs.Sent.{Owed}
use Rattle.value_fields.proofs.send_others.Given as goal

abbrev pub invariant-loop-j : goal.invariant-loop-j
invariant-loop-j l = Owed l.bound l.initial.out l.at (codes_behind (drop 1 (take l.n l.list))) l.out l.end
    (codes_behind (drop l.j (take l.n l.list)))
