-- `imports::judge_records` meets its contract.
use mathlib.Core.Path.{sym}
use native.Mathlib.Omega.{arith}
use Prim.Native.Nat.{◌+◌}
use lib.Seq.{length-take-le}
use Rattle.imports.proofs.judge_records.Goals as goal

pub slice_bounds-judge_lines-end-2 : goal.slice_bounds-judge_lines-end-2
slice_bounds-judge_lines-end-2 c =
    sym (length-take-le (c.args.len + 2) c.args.slot.now (omega (
      arith,
      c.requires.from_in_bounds.1,
      c.requires.from_in_bounds.2,
    )))

pub judge_lines-requires : goal.judge_lines-requires
judge_lines-requires c = record {
  tens = c.requires.tens;
  table_known = c.requires.table_known;
  from_in_bounds = (
    c.requires.from_in_bounds.0,
    length-take-le (c.args.len + 2) c.args.slot.now (omega (
      arith,
      c.requires.from_in_bounds.1,
      c.requires.from_in_bounds.2,
    )),
    c.requires.from_in_bounds.3,
  );
  list_len = c.requires.list_len;
}
