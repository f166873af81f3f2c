use mathlib.Core.Path.{◌∙◌, sym}
use Rattle.values.proofs.Rooms.{full_spare}
use Rattle.blocks.proofs.place_line.Goals as goal

pub returns-in-Ok : goal.returns-in-Ok
returns-in-Ok c =
    let e = sym c.stand_line.ensures.value ∙ c.in-Ok.is in record {
      value = rw e (c.unless.ensures ∙ rw c.grown-g.ensures);
      lines_after = c.stand_line.ensures.lines_after;
      marks_after = c.stand_line.ensures.marks_after;
    }

pub returns-in-Err : goal.returns-in-Err
returns-in-Err c =
    let e = sym c.stand_line.ensures.value ∙ c.in-Err.is in record {
      value = rw e;
      lines_after = c.stand_line.ensures.lines_after;
      marks_after = c.stand_line.ensures.marks_after;
    }

-- the room is that of the most lines
pub stand_line-requires : goal.stand_line-requires
stand_line-requires c =
    let p = c.requires in
    let r = p.lines_len in record {
      spare = (full_spare _ _ r.0 r.2, r.1, r.2, r.3);
      marked = p.marked;
      storable = p.storable;
    }
