-- `commas::send_inside` meets its contract. The invariant: what is left to send gives the whole.
use lib.ListN.{drop}
use Rattle.commas.specs.rule.Csv.{doubled}
use Rattle.sink.specs.Sent.{Owed}
use Rattle.commas.proofs.send_inside.Given as goal

abbrev pub invariant-loop-b : goal.invariant-loop-b
invariant-loop-b l = Owed l.bound l.initial.out l.at (doubled l.s) l.out l.end (doubled (drop l.b-index l.s))
