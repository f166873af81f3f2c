-- `readings::many::marked_legal` meets its contract: by the marks of the row's numbers.
use Rattle.readings.proofs.many.marked_legal.Goals as goal

pub entries_legal-requires : goal.entries_legal-requires
entries_legal-requires c =
    let m = c.mark_legal in record {
      row_ready = c.requires.row_ready;
      kind_value = c.requires.kind_value;
      standing = c.requires.standing;
      marks = (m.ensures, rw m.auto.marks c.requires.marks_len_bound);
    }
