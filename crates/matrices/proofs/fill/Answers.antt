-- `matrices::fill` meets its contract: header, entries, summaries.
-- Assumes nothing.
use mathlib.Core.Path.{◌≡◌}
use native.Mathlib.Omega.{arith}
use borrow.Author.Rules.{rules}
use lib.ListN.{length}
use Rattle.files.specs.Tested.{tested_rows, tested_length}
use Rattle.columns.specs.rule.Columns.{columns_from}
use Rattle.matrices.specs.Records.{file_sound}
use Rattle.matrices.specs.Even.{file_even}
use Rattle.matrices.specs.Legal.{file_legal}
use Rattle.matrices.specs.Written.{filled}
use Rattle.matrices.proofs.fill.Goals as goal

pub put_header-requires : goal.put_header-requires
put_header-requires c = let p = c.requires.columns_value in (p.1, p.2, p.3)

pub put_records-requires : goal.put_records-requires
put_records-requires c =
    let p = c.requires in
    let a = c.args in
    let s = file_sound a.t.now a.d.now a.records p.tested.1 in
    let cs = columns_from a.t.now a.h.rows 0 a.h.rows in
    let e : a.columns ≡ length cs = rw (tested_rows p.tested.0) p.columns_value.0 in
    let total = p.columns_value.2 in record {
      ready = record {
        tens = c.powers-powers.ensures;
        tested = p.tested.0;
        room = search rules;
        marks = search rules;
        marks_too = search rules;
      };
      columns_value = e;
      all_of = (
        file_even a.t.now a.d.now a.records p.tested.1,
        s.2,
        rw (tested_length p.tested.0) s.1,
        rw (tested_rows p.tested.0) (file_legal a.t.now a.d.now a.records p.tested.1),
      );
      le_columns = (
        p.columns_value.1,
        omega arith,
        omega (arith, total),
        record {
          behind = omega arith;
          inside = omega (arith, p.columns_value.3, c.put_header.auto.out);
        },
      );
    }

pub returns : goal.returns
returns c =
    let p = c.requires in
    filled p.tested.0 c.args.d.now c.args.out.now c.args.records c.args.columns p.tested.1 p.columns_value.0
    c.put_header.ensures c.put_records.ensures
