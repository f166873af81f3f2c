-- `record_lines::send_lines` meets its contract. The invariant: the lines of the records that are left give the whole text.
use Prim.Native.Nat.{◌-◌}
use lib.ListN.{drop}
use Rattle.cuts.specs.rule.Records.{records_from}
use Rattle.commas.specs.rule.Csv.{csv_bytes}
use Rattle.sink.specs.Sent.{Owed}
use Rattle.record_lines.specs.rule.Lines.{records_lines}
use Rattle.record_lines.specs.Lines.{SoundFirst}
use Rattle.record_lines.proofs.send_lines.Given as goal

abbrev pub invariant-loop : goal.invariant-loop
invariant-loop l = SoundFirst l.t (l.n - l.counter) (records_from l.w (drop l.from l.d))
    × Owed l.bound l.initial.out l.at (csv_bytes (records_lines l.t l.n (records_from l.w l.d))) l.out l.end
    (csv_bytes (records_lines l.t (l.n - l.counter) (records_from l.w (drop l.from l.d))))
