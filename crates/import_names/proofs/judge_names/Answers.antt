use native.Mathlib.Omega.{arith}
use Rattle.csv_fields.specs.Page.{cut_comma, cut_last, cut_torn}
use Rattle.import_names.specs.Names.{naming_none, naming_more, naming_last, naming_torn, names_line}
use Rattle.import_names.proofs.judge_names.Goals as goal

pub loop-from-init : goal.loop-from-init
loop-from-init c = naming_none _ _ _

pub next_field-requires : goal.next_field-requires
next_field-requires c = c.loop-from.invariant.within

pub slice_bounds-name_one-count : goal.slice_bounds-name_one-count
slice_bounds-name_one-count c = let k = cut_comma c.args.d.now
    c.next_field.result c.next_field.ensures c.in-Comma.is in
    omega (arith, k.0.stands.on)

pub slice_bounds-name_one-start : goal.slice_bounds-name_one-start
slice_bounds-name_one-start c = let k = cut_comma c.args.d.now
    c.next_field.result c.next_field.ensures c.in-Comma.is in
    omega (arith, k.0.stands.on, k.0.stands.within)

pub slice_bounds-name_one-end : goal.slice_bounds-name_one-end
slice_bounds-name_one-end c = let k = cut_comma c.args.d.now
    c.next_field.result c.next_field.ensures c.in-Comma.is in
    omega (arith, k.0.stands.on, k.0.stands.within)

pub name_one-bad-requires : goal.name_one-bad-requires
name_one-bad-requires c = record {
  classes = c.requires.classes;
  rows_le_most_rows = (
    c.requires.rows_le_most_rows.0,
    c.requires.rows_le_most_rows.1,
    omega (
      arith,
      c.loop-from.invariant.on,
      c.loop-from.invariant.within,
      c.well_formed.1.1.1.1.0,
    ),
  );
}

pub overflow_add-j : goal.overflow_add-j
overflow_add-j c = let k = cut_comma c.args.d.now
    c.next_field.result c.next_field.ensures
    c.in-Comma.is in
    omega (arith, c.loop-from.invariant.on, k.1, k.0.inside')

pub loop-from-smaller : goal.loop-from-smaller
loop-from-smaller c = let k = cut_comma c.args.d.now
    c.next_field.result c.next_field.ensures
    c.in-Comma.is in omega (arith, k.1, k.0.inside')

pub loop-from-preserved : goal.loop-from-preserved
loop-from-preserved c =
    let k = cut_comma c.args.d.now
    c.next_field.result c.next_field.ensures c.in-Comma.is in
    naming_more c.loop-from.invariant k.0 c.name_one-bad.ensures k.1

pub slice_bounds-name_one-count-in-Last : goal.slice_bounds-name_one-count-in-Last
slice_bounds-name_one-count-in-Last c = let k = cut_last c.args.d.now
    c.next_field.result c.next_field.ensures c.in-Last.is in
    omega (arith, k.0.stands.on)

pub name_one-bad-requires-in-Last : goal.name_one-bad-requires-in-Last
name_one-bad-requires-in-Last c = record {
  classes = c.requires.classes;
  rows_le_most_rows = (
    c.requires.rows_le_most_rows.0,
    c.requires.rows_le_most_rows.1,
    omega (
      arith,
      c.loop-from.invariant.on,
      c.loop-from.invariant.within,
      c.well_formed.1.1.1.1.0,
    ),
  );
}

pub overflow_add-j-in-Last : goal.overflow_add-j-in-Last
overflow_add-j-in-Last c = let k = cut_last c.args.d.now
    c.next_field.result c.next_field.ensures
    c.in-Last.is in
    omega (arith, c.loop-from.invariant.on, k.1, k.0.inside')

pub names_end-requires : goal.names_end-requires
names_end-requires c = c.requires.rows_le_most_rows.0

pub returns-in-Last : goal.returns-in-Last
returns-in-Last c =
    let args = c.args in
    let k = cut_last args.d.now c.next_field.result
    c.next_field.ensures c.in-Last.is in
    rw (
      c.names_end.ensures,
      names_line args.def.now args.t.now args.rows,
    ) (naming_last c.loop-from.invariant k.0 c.name_one-bad-in-Last.ensures)

pub overflow_add-result : goal.overflow_add-result
overflow_add-result c = omega (arith, c.loop-from.invariant.on, c.loop-from.invariant.within)

pub returns-in-Torn : goal.returns-in-Torn
returns-in-Torn c = naming_torn c.loop-from.invariant
    (cut_torn c.args.d.now c.next_field.result
    c.next_field.ensures.0 c.in-Torn.is)

pub slice_bounds-name_one-start-in-Last : goal.slice_bounds-name_one-start-in-Last
slice_bounds-name_one-start-in-Last c = let k = cut_last c.args.d.now
    c.next_field.result c.next_field.ensures c.in-Last.is in
    omega (arith, k.0.stands.on, k.0.stands.within)

pub slice_bounds-name_one-end-in-Last : goal.slice_bounds-name_one-end-in-Last
slice_bounds-name_one-end-in-Last c = let k = cut_last c.args.d.now
    c.next_field.result c.next_field.ensures c.in-Last.is in
    omega (arith, k.0.stands.on, k.0.stands.within)
