-- `readings::many::spreads_legal` meets its contract: the room for the marks, and the judgement with them.
use mathlib.Core.Path.{sym}
use native.Mathlib.Omega.{arith}
use lib.Seq.{length-take-le}
use Rattle.readings.specs.Ready.{spread_ready}
use Rattle.readings.proofs.many.spreads_legal.Goals as goal

pub marks_for-m-requires : goal.marks_for-m-requires
marks_for-m-requires c =
    let f = spread_ready c.requires.row_ready c.requires.kind_value in
    (let l = f.lines.few_lines in omega arith, f.few, f.fields)

pub slice_bounds-marked_legal-end-2 : goal.slice_bounds-marked_legal-end-2
slice_bounds-marked_legal-end-2 c = sym (length-take-le _ _ c.marks_for-m.ensures)

pub marked_legal-requires : goal.marked_legal-requires
marked_legal-requires c =
    let l = c.requires.scratch_len_bound in
    let f = c.marks_for-m.ensures in record {
      row_ready = c.requires.row_ready;
      kind_value = c.requires.kind_value;
      standing = c.requires.standing;
      marks_len_bound = rw (length-take-le c.marks_for-m.result c.args.scratch.now f)
          (omega arith);
    }

pub slice_bounds-marked_legal-end : goal.slice_bounds-marked_legal-end
slice_bounds-marked_legal-end c = c.marks_for-m.ensures
