use mathlib.Core.Path.{refl, sym, ◌∙◌}
use lib.Seq.{length-take-le}
use Rattle.xml_files.proofs.Wholes.{declared_in, cut_here, whole_here, whole_not}
use Rattle.xml_files.proofs.read_in.Goals as goal

pub first_bad-q-requires : goal.first_bad-q-requires
first_bad-q-requires c = declared_in c.args.d.now _ _
    (sym c.read_declaration.ensures ∙ c.in-Read.is)

pub read_sheet-requires : goal.read_sheet-requires
read_sheet-requires c =
    let p = c.requires in
    let d = c.args.d.now in
    let h = declared_in d _ _ (sym c.read_declaration.ensures ∙ c.in-Read.is) in
    let i = cut_here _ d _ _ h c.first_bad-q.ensures.0 c.first_bad-q.ensures.1 p.d_len_bound in record {
      classes = p.classes;
      tens = p.tens;
      d_len_bound = (i.0, i.1);
      rows_len = p.rows_len;
      seen_value = p.seen_value;
    }

pub returns-in-Read : goal.returns-in-Read
returns-in-Read c =
    whole_here c.args.d.now c.requires.d_len_bound _ c.read_declaration.ensures _ _ _ _ _ _ _
    c.in-Read.is c.first_bad-q.ensures.0 refl
    c.read_sheet.ensures

pub returns-in-Fault : goal.returns-in-Fault
returns-in-Fault c =
    whole_not c.args.d.now c.requires.d_len_bound _ c.read_declaration.ensures _ _ _
    _ c.in-Fault.is

pub slice_bounds-read_sheet-end : goal.slice_bounds-read_sheet-end
slice_bounds-read_sheet-end c = sym (length-take-le _ _ c.first_bad-q.ensures.1)
