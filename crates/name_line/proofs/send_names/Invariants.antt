-- `name_line::send_names` meets its contract. The invariant: the names that are left to send give the whole line.
use Prim.Native.Nat.{◌-◌}
use Rattle.commas.specs.rule.Csv.{line_bytes}
use Rattle.commas.specs.Csv.{line_left}
use Rattle.sink.specs.Sent.{Owed}
use Rattle.name_line.specs.rule.Names.{name_line}
use Rattle.name_line.specs.Names.{name_at}
use Rattle.name_line.proofs.send_names.Given as goal

abbrev pub invariant-loop-i : goal.invariant-loop-i
invariant-loop-i l = Owed l.bound l.initial.out l.at (line_bytes (name_line l.d l.t l.rows)) l.out l.end
    (line_left (name_at l.d l.t) l.i (l.rows - l.i))
