-- `imports::build_records` meets its contract: 60 where the records have no room, else they are built.
use native.Mathlib.Omega.{arith}
use lib.ListN.{drop}
use Rattle.csv_fields.specs.rule.Page.{start, page, page_lines}
use Rattle.imports.specs.rule.Import.{import_said}
use Rattle.imports.specs.Import.{accepted_sized, roomed_short, roomed_fits, roomed_written}
use Rattle.imports.proofs.build_records.Goals as goal

pub returns-then-out-size : goal.returns-then-out-size
unfolding import_said
returns-then-out-size c = roomed_short c.requires.accepted
    (accepted_sized c.args.t.now
    (page_lines (page start (drop c.args.from
    c.args.d.now)))
    c.requires.accepted
    c.requires.table_known.2) (omega arith)
    c.args.out.now
    c.if-out-size.true

pub build_lines-requires : goal.build_lines-requires
build_lines-requires c = record {
  tens = c.requires.tens;
  table_known = c.requires.table_known;
  from_in_bounds = (
    c.requires.from_in_bounds.0,
    roomed_fits c.requires.accepted (accepted_sized c.args.t.now
        (page_lines (page start (drop c.args.from c.args.d.now))) c.requires.accepted
        c.requires.table_known.2) (omega arith) c.args.out.now c.if-out-size.false,
    c.requires.from_in_bounds.1,
    c.requires.from_in_bounds.2,
  );
  accepted = c.requires.accepted;
  list_len = c.requires.list_len;
}

pub overflow_mul-result : goal.overflow_mul-result
overflow_mul-result c =
    omega (
      arith,
      roomed_fits c.requires.accepted (accepted_sized c.args.t.now (page_lines (page start
          (drop c.args.from c.args.d.now))) c.requires.accepted
          c.requires.table_known.2) (omega arith) c.args.out.now c.if-out-size.false,
      c.well_formed.1.1.1.1.1.1.1.1.1.1.1.0,
    )

pub returns : goal.returns
unfolding import_said
returns c = roomed_written
    c.requires.accepted
    (accepted_sized
    c.args.t.now (page_lines (page start (drop
    c.args.from
    c.args.d.now)))
    c.requires.accepted
    c.requires.table_known.2) (omega arith)
    c.args.out.now
    c.if-out-size.false
    c.build_lines.ensures
