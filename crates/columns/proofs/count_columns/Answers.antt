use mathlib.Core.Path.{refl, ap, ◌∙◌}
use Prim.Native.Nat.{◌≤◌}
use native.Mathlib.Nat.{sub-zero}
use native.Mathlib.Omega.{arith}
use lib.ListN.{length}
use Rattle.sound.specs.rule.Rows.{length_of}
use Rattle.records.specs.Tables.{table_ready}
use Rattle.files.specs.Tested.{tested_rows}
use mathlib.Core.List.{List, []}
use Rattle.columns.specs.rule.Columns.{Column}
use Rattle.columns.specs.Columns.{left_count, columns_none}
use Rattle.columns.proofs.count_columns.Goals as goal
use Rattle.columns.proofs.count_columns.Goals.{Start}

-- a table has 512 rows at most
few : (c : Start) → c.args.h.rows ≤ 512
few c = rw (tested_rows c.requires.0) (table_ready c.args.t.now c.requires.0.good (length_of c.args.t.now) (omega arith)).few

pub loop-i-init : goal.loop-i-init
loop-i-init c = (omega arith, refl, rw sub-zero (omega arith))

pub count_row-k-requires : goal.count_row-k-requires
count_row-k-requires c = (
  c.requires.0,
  c.loop-i-test.true,
  c.loop-i.invariant.1 ∙ c.requires.1,
)

pub overflow_add-k : goal.overflow_add-k
overflow_add-k c = omega (
  arith,
  c.count_row-k.ensures.1,
  c.loop-i.invariant.0,
  c.loop-i-test.true,
  few (goal.at.overflow_add-k c).Start,
)

pub loop-i-preserved : goal.loop-i-preserved
loop-i-preserved c =
    let a = c.args in
    let l = c.loop-i in
    let n = left_count a.t.now a.h.rows [] l.i c.loop-i-test.true in (
      omega (arith, l.invariant.0, c.count_row-k.ensures.1),
      c.count_row-k.auto.allowed ∙ l.invariant.1,
      omega (arith, n, l.invariant.2, c.count_row-k.ensures.0),
    )

pub shape_of-allowed : goal.shape_of-allowed
shape_of-allowed c = c.loop-i.invariant.1

pub returns : goal.returns
returns c =
    let a = c.args in
    let l = c.loop-i in
    let n = ap (λ (cs : List Column). length cs) (columns_none a.t.now a.h.rows l.i c.loop-i-test.false) in
    (omega (arith, n, l.invariant.2), omega (arith, l.invariant.0, few (goal.at.returns c).Start))
