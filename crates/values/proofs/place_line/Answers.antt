use mathlib.Core.Path.{◌∙◌, sym}
use Rattle.values.proofs.place_line.Goals as goal

pub returns-in-Ok : goal.returns-in-Ok
returns-in-Ok c =
    let e = sym c.stand_line.ensures.value ∙ c.in-Ok.is in record {
      value = rw e (c.more.ensures ∙ rw c.grown-g.ensures);
      lines_after = c.stand_line.ensures.lines_after;
      marks_after = c.stand_line.ensures.marks_after;
    }

pub returns-in-Err : goal.returns-in-Err
returns-in-Err c =
    let e = sym c.stand_line.ensures.value ∙ c.in-Err.is in record {
      value = rw e;
      lines_after = c.stand_line.ensures.lines_after;
      marks_after = c.stand_line.ensures.marks_after;
    }

pub stand_line-requires : goal.stand_line-requires
stand_line-requires c = record {
  spare = c.requires.spare;
  marked = c.requires.marked;
  storable = c.requires.storable;
}
