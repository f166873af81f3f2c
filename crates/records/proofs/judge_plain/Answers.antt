-- `records::judge_plain` meets its contract: no byte below 32 is found, so the verdict is that on the rows; the row found is one of the
-- table's.
use mathlib.Core.Path.{sym, ◌∙◌}
use Prim.Native.Nat.{◌<◌}
use native.Mathlib.Omega.{arith}
use Rattle.records.specs.rule.First.{bad_row}
use Rattle.records.specs.rule.Verdict.{judged_as, rows_verdict, row_verdict, byte_verdict}
use Rattle.records.proofs.Laws.{first_of_plain, first_inside}
use Rattle.records.proofs.judge_plain.Goals as goal
use Rattle.records.proofs.judge_plain.Goals.{In-Some}

inside : (c : In-Some) → c.in-Some.i
    < c.args.rows
inside c =
    let h = first_inside (bad_row c.args.t.now c.args.rows c.args.bytes.now)
    c.args.rows 0 c.in-Some.i (sym c.illegal_row.ensures ∙ c.in-Some.is) in
    omega arith

-- row i stands in the table
pub read-requires : goal.read-requires
read-requires c =
    let f = c.requires.table_ready.few in
    let s = c.requires.table_ready.stand in
    let l = inside c in (omega arith, omega arith)

pub row_fault-requires : goal.row_fault-requires
row_fault-requires c = rw c.read.ensures
    (c.requires.table_ready.row c.in-Some.i
    (inside (goal.at.row_fault-requires c).In-Some))

pub returns-in-Some : goal.returns-in-Some
unfolding judged_as rows_verdict byte_verdict row_verdict
returns-in-Some c =
    rw (
      first_of_plain c.args.bytes.now c.requires.plain,
      ← c.illegal_row.ensures,
      c.in-Some.is,
      c.row_fault.ensures,
      c.read.ensures,
    )

pub returns-in-None : goal.returns-in-None
unfolding judged_as rows_verdict byte_verdict row_verdict
returns-in-None c =
    rw (
      first_of_plain c.args.bytes.now c.requires.plain,
      ← c.illegal_row.ensures,
      c.in-None.is,
    )
