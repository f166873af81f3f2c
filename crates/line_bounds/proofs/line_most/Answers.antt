use mathlib.Core.Path.{◌≡◌}
use Prim.Native.Nat.{◌-◌, ◌≤◌}
use native.Mathlib.Omega.{arith}
use mathlib.Core.List.{List}
use lib.IntN.{ℤ}
use Rattle.layout.specs.declared.Header.{Header}
use Rattle.records.specs.Tables.{table_ready}
use Rattle.files.specs.rule.Tested.{Tested}
use Rattle.layout.specs.rule.Row.{row_at}
use Rattle.sound.specs.rule.Rows.{rows_of, length_of}
use Rattle.sound.specs.Rows.{row_facts}
use Rattle.files.specs.Tested.{tested_rows}
use Rattle.listing.specs.RowLaws.{row_stands}
use Rattle.line_bounds.specs.Bounds.{most_from, field_most, row_small, most_next, most_end, most_some}
use Rattle.line_bounds.proofs.line_most.Goals as goal

rows_few : {t : List ℤ} {h : Header} → Tested t h → h.rows ≤ 512
rows_few {t} g = let r = table_ready t g.good (length_of t) (omega arith) in omega (arith, tested_rows g, r.few)

pub loop-i-init : goal.loop-i-init
loop-i-init c =
    let t = c.args.t.now in
    let e : rows_of t - 0 ≡ rows_of t = omega arith in
    (rw e (omega arith), omega arith)

pub read-row-requires : goal.read-row-requires
read-row-requires c = row_stands c.requires c.loop-i-test.true

pub most_by-requires : goal.most_by-requires
most_by-requires c =
    let t = c.args.t.now in
    let i = c.loop-i.i in
    rw c.read-row.ensures (row_small t (rows_of t) (length_of t) (row_at t i)
    (row_facts t c.requires.good i
    (rw (tested_rows c.requires) at c.loop-i-test.true)))

pub loop-i-preserved : goal.loop-i-preserved
loop-i-preserved c =
    let t = c.args.t.now in
    let l = c.loop-i in
    let n = most_next t (rows_of t) l.i (rw (tested_rows c.requires) at
    c.loop-i-test.true) in
    let m : c.most_by.result ≡ field_most (row_at t l.i) = rw c.read-row.ensures at c.most_by.ensures.0 in (
      omega (arith, l.invariant.0, n, m),
      omega (arith, l.invariant.1, c.most_by.ensures.1),
    )

pub returns : goal.returns
returns c =
    let t = c.args.t.now in
    let l = c.loop-i in
    let e = most_end t (rows_of t) l.i (omega (arith, c.loop-i-test.false, tested_rows c.requires)) in
    let q : l.sum ≡ most_from t 0 (rows_of t) = omega (arith, l.invariant.0, e) in
    (q, omega (arith, q, most_some t (rows_of t) 0))

pub overflow_add-sum : goal.overflow_add-sum
overflow_add-sum c = omega (
  arith,
  c.loop-i.invariant.1,
  rows_few c.requires,
  c.most_by.ensures.1,
)

pub overflow_add-sum-in-loop-i : goal.overflow_add-sum-in-loop-i
overflow_add-sum-in-loop-i c = omega (
  arith,
  c.loop-i.invariant.1,
  rows_few c.requires,
  c.most_by.ensures.1,
)
