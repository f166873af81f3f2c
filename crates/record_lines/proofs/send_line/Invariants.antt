-- `record_lines::send_line` meets its contract. The invariant: the fields that are left to send give the whole line.
use Prim.Native.Nat.{◌-◌}
use Rattle.commas.specs.rule.Csv.{line_bytes}
use Rattle.commas.specs.Csv.{line_left}
use Rattle.sink.specs.Sent.{Owed}
use Rattle.value_fields.specs.rule.Values.{row_field}
use Rattle.record_lines.specs.rule.Lines.{record_line}
use Rattle.record_lines.proofs.send_line.Given as goal

abbrev pub invariant-loop-i : goal.invariant-loop-i
invariant-loop-i l = Owed l.bound l.initial.out l.at (line_bytes (record_line l.t l.bytes)) l.out l.end
    (line_left (row_field l.t l.bytes) l.i (l.h.rows - l.i))
