use mathlib.Core.Path.{◌∙◌, sym}
use native.Mathlib.Omega.{arith}
use Rattle.values.proofs.Lists.{marked_here}
use Rattle.blocks.proofs.Parts.{word_is, word_refused, word_storable, line_placed, line_refused}
use Rattle.blocks.proofs.line_at.Goals as goal

pub place_line-requires : goal.place_line-requires
place_line-requires c =
    let p = c.requires in
    let h = p.standing.lines.holds in
    let i = word_is _ _ _ _ _ p.end_in_bounds.0 (sym c.read_value.ensures
    ∙ c.in-Is.is) in record {
      lines_len = (h.kept, omega (arith, h.count), h.most, h.slots);
      marked = marked_here h;
      storable = word_storable _ _ _ _ _ p.end_in_bounds.0 p.end_in_bounds.1 i;
    }

pub returns-in-Is : goal.returns-in-Is
returns-in-Is c k start l =
    let p = c.requires in
    let i = word_is _ _ _ _ _ p.end_in_bounds.0 (sym c.read_value.ensures ∙ c.in-Is.is) in
    let e = c.place_line.ensures in
    line_placed _ _ _ _ _ p.end_in_bounds.0 _ l i e.value e.lines_after e.marks_after

pub returns-in-Not : goal.returns-in-Not
returns-in-Not c k start l =
    let p = c.requires in
    line_refused _ _ _ _ _ p.end_in_bounds.0 _ l _ _ (word_refused _ _ _ _ _ p.end_in_bounds.0
    (sym c.read_value.ensures ∙ c.in-Not.is))
