-- `lister::list_by` is safe: what it lends has the lengths that are asked, and the table was tested.
use mathlib.Core.Path.{refl, sym, ◌∙◌}
use lib.Seq.{length-take-le}
use Rattle.lister.proofs.list_by.Goals as goal

pub list_all-requires : goal.list_all-requires
list_all-requires g c =
    let p = c.requires in record {
      tens = (
        p.0,
        record {
          good = sym c.well_formed-2.ensures.says ∙ c.if-well_formed.true;
          head = c.read-h.ensures;
        },
        c.find_terminator-w.ensures,
        p.1,
      );
      list_len = (refl, refl, p.2);
    }

pub slice_bounds-write-end-2 : goal.slice_bounds-write-end-2
slice_bounds-write-end-2 g c = sym (length-take-le _ _ c.append_fault-end.ensures.inside)
