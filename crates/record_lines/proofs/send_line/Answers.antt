use mathlib.Core.Path.{refl, sym, ◌∙◌}
use Rattle.commas.specs.Csv.{left_next, left_end}
use Rattle.sink.specs.Sent.{all_owed, less_owed, sent_as}
use Rattle.files.specs.Tested.{tested_rows, tested_length}
use Rattle.record_lines.specs.Lines.{line_whole}
use Rattle.record_lines.proofs.send_line.Goals as goal

pub loop-i-init : goal.loop-i-init
loop-i-init c = all_owed _ _ _ (line_whole c.requires.ready.tested _)

pub send_row-end-requires : goal.send_row-end-requires
send_row-end-requires c =
    let p = c.requires in record {
      ready = record {
        tens = p.ready.tens;
        tested = p.ready.tested;
        list = c.loop-i.auto.list ∙ p.ready.list;
      };
      i_lt_rows = (c.loop-i-test.true, rw (tested_length p.ready.tested) p.sound_record.long);
      full = p.full;
      bytes_value = p.sound_record.legal _ (rw (tested_rows p.ready.tested) at c.loop-i-test.true);
    }

pub loop-i-preserved : goal.loop-i-preserved
loop-i-preserved c =
    less_owed (less_owed c.loop-i.invariant (left_next _ _ _ c.loop-i-test.true) c.send_comma-end.ensures) refl
    c.send_row-end.ensures

pub returns : goal.returns
returns c = c.loop-i.invariant.pays
    (sent_as c.send_end.ensures (sym (left_end _ _ _ c.loop-i-test.false)))
