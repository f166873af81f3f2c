-- `import_passes::take_record` meets its contract: the slot is blanked, the line's record built in it, and CR LF stored behind.
use mathlib.Core.Path.{sym, ◌∙◌}
use native.Mathlib.Omega.{arith}
use lib.ListN.{drop}
use lib.Seq.{length-take-le}
use Rattle.import_passes.specs.Passes.{blanked, blank_long, blank_size, behind_two, end_inside, end_size, ended_by, line_ended}
use Rattle.import_passes.proofs.take_record.Goals as goal

pub blank-requires : goal.blank-requires
blank-requires c = omega (arith, c.requires.from_in_bounds.1)

pub slice_bounds-take_line-end : goal.slice_bounds-take_line-end
slice_bounds-take_line-end c =
    blank_long c.args.slot.now c.args.len c.requires.from_in_bounds.1
    c.blank.ensures

pub slice_bounds-take_line-end-2 : goal.slice_bounds-take_line-end-2
slice_bounds-take_line-end-2 c =
    sym (length-take-le _ _ (blank_long c.args.slot.now c.args.len c.requires.from_in_bounds.1
    c.blank.ensures))

pub take_line-end-requires : goal.take_line-end-requires
take_line-end-requires c = record {
  tens = c.requires.tens;
  table_known = c.requires.table_known;
  from_in_bounds = (
    c.requires.from_in_bounds.0,
    blanked c.args.slot.now c.args.len (omega (
      arith,
      c.requires.from_in_bounds.1,
    )) c.blank.ensures,
    c.requires.from_in_bounds.2,
  );
  list_len = c.requires.list_len;
}

pub overflow_add-slot : goal.overflow_add-slot
overflow_add-slot c =
    omega (
      arith,
      c.requires.from_in_bounds.1,
      c.well_formed.1.1.1.1.1.1.1.1.1.1.0,
    )

pub bounds-slot-len-2 : goal.bounds-slot-len-2
bounds-slot-len-2 c =
    end_inside c.take_line-end.new.bytes (drop c.args.len c.blank.new.out) _
    (c.take_line-end.auto.bytes ∙ blank_size c.args.slot.now c.args.len
    c.requires.from_in_bounds.1 c.blank.ensures) (behind_two c.args.slot.now c.args.len
    c.requires.from_in_bounds.1 c.blank.ensures)

pub shape_of-slot : goal.shape_of-slot
shape_of-slot c =
    end_size c.take_line-end.new.bytes (drop c.args.len c.blank.new.out)
    c.args.slot.now _ (c.take_line-end.auto.bytes ∙ blank_size c.args.slot.now
    c.args.len c.requires.from_in_bounds.1 c.blank.ensures) (behind_two c.args.slot.now
    c.args.len c.requires.from_in_bounds.1 c.blank.ensures) c.requires.from_in_bounds.1

pub returns : goal.returns
returns c =
    line_ended _ _ _ c.take_line-end.new.bytes c.take_line-end.result
    c.take_line-end.ensures (ended_by c.take_line-end.new.bytes
    (drop c.args.len c.blank.new.out) _
    (c.take_line-end.auto.bytes ∙ blank_size
    c.args.slot.now c.args.len c.requires.from_in_bounds.1 c.blank.ensures) (behind_two
    c.args.slot.now c.args.len c.requires.from_in_bounds.1 c.blank.ensures))
