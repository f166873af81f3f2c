use mathlib.Core.Path.{◌∙◌, sym}
use Rattle.values.specs.Room.{turn_of, room_after, marks_after}
use Rattle.values.proofs.Lists.{line_storable}
use Rattle.values.proofs.one_line.Goals as goal

pub place_line-requires : goal.place_line-requires
place_line-requires c = record {
  classes = c.requires.classes;
  spare = c.requires.spare;
  marked = c.requires.marked;
  storable = line_storable _ _ _ c.requires.d_len_bound (sym c.line_rest.ensures ∙ c.in-Ok.is);
}

pub returns-in-Ok : goal.returns-in-Ok
unfolding turn_of room_after marks_after
returns-in-Ok c =
    let e = sym c.line_rest.ensures ∙ c.in-Ok.is in record {
      value = rw e c.place_line.ensures.value;
      lines_after = rw e c.place_line.ensures.lines_after;
      marks_after = rw e c.place_line.ensures.marks_after;
    }

pub returns-in-Err : goal.returns-in-Err
unfolding turn_of room_after marks_after
returns-in-Err c =
    let e = sym c.line_rest.ensures ∙ c.in-Err.is in record {
      value = rw e;
      lines_after = rw e;
      marks_after = rw e;
    }
