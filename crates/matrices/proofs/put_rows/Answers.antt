use mathlib.Core.Path.{◌≡◌, refl, sym, ap, ◌∙◌}
use mathlib.Core.List.{List, []}
use Prim.Native.Nat.{ℕ, ◌+◌, ◌-◌, ◌*◌, ◌≤◌}
use native.Mathlib.Nat.{add-zero, sub-zero}
use native.Mathlib.Omega.{arith}
use lib.ListN.{length}
use Rattle.columns.specs.rule.Columns.{row_columns, columns_from}
use Rattle.columns.specs.Columns.{left_count}
use Rattle.columns.specs.Room.{room_on}
use Rattle.little.specs.rule.Bytes.{put_at}
use Rattle.matrices.specs.Parts.{records_in, length_records}
use Rattle.matrices.specs.Blocks.{columns_whole, each_room}
use Rattle.matrices.specs.Stand.{slots_of, told_step, told_done}
use Rattle.matrices.proofs.put_rows.Goals as goal
use Rattle.matrices.proofs.put_rows.Goals.{After-put_columns-arg-in-loop-i-3-1}

-- how many columns the row has that is at hand, and those behind it
left : (c : After-put_columns-arg-in-loop-i-3-1)
    → let a = c.args in
    let l = c.loop-i in
    l.k + (length (row_columns a.t.now a.h.rows l.i)
    + length (columns_from a.t.now a.h.rows (l.i + 1) (a.h.rows - (l.i + 1)))) ≡ a.columns
left c =
    let a = c.args in
    let l = c.loop-i in
    omega (arith, l.invariant.4, left_count a.t.now a.h.rows [] l.i c.loop-i-test.true)

small : (c : After-put_columns-arg-in-loop-i-3-1)
    → let a = c.args in
    (c.loop-i.k ≤ 16777216) × (a.flags ≤ 16777216) × (a.values ≤ 16777216)
small c = let p = c.requires.columns_bound in (
  omega
      (arith, left c, p.1),
  omega (arith, p.2, p.4.behind),
  p.2,
)

pub loop-i-init : goal.loop-i-init
loop-i-init c = (
  refl,
  refl,
  refl,
  refl,
  rw (sub-zero c.args.h.rows)
      (omega (arith, c.requires.columns_value)),
  simp (sub-zero, add-zero),
)

pub put_columns-k-requires : goal.put_columns-k-requires
put_columns-k-requires c =
    let l = c.loop-i in
    let p = c.requires in record {
      ready = record {
        tens = p.ready.tens;
        tested = p.ready.tested;
        room = l.invariant.0 ∙ p.ready.room;
        marks = l.invariant.1 ∙ p.ready.marks;
        marks_too = l.invariant.2 ∙ p.ready.marks_too;
      };
      i_lt_rows = (
        c.loop-i-test.true,
        p.steps.0,
        p.steps.1,
      );
      columns_bound = (
        p.columns_bound.0,
        p.columns_bound.1,
        omega (arith, small c),
        omega (arith, p.columns_bound.4.behind),
        omega (arith, p.columns_bound.3, p.columns_bound.4.behind, p.columns_bound.4.inside, l.invariant.3, left c),
        omega (arith, left c),
        omega (arith, left c, p.columns_bound.3),
        each_room (room_on l.invariant.3 p.columns_bound.4) refl l.k _ (omega (arith, left c)),
      );
    }

pub loop-i-preserved : goal.loop-i-preserved
loop-i-preserved c =
    let put = c.put_columns-k in
    let l = c.loop-i in
    let a = c.args in
    let p = c.requires in
    let r = p.columns_bound.4 in (
      put.auto.list ∙ l.invariant.0,
      put.auto.allowed ∙ l.invariant.1,
      put.auto.present ∙ l.invariant.2,
      put.auto.out ∙ l.invariant.3,
      omega (arith, left (goal.at.loop-i-preserved c).After-put_columns-arg-in-loop-i-3-1, put.ensures.0),
      told_step a.t.now a.h.rows a.columns (records_in a.d.now a.s.first a.s.step a.p.from a.p.count)
          a.told l.i l.k a.flags a.values l.out
          c.loop-i-test.true l.invariant.4
          (omega (
            arith,
            r.behind,
            ap (λ (x : ℕ). x * a.columns)
                (length_records a.d.now a.s.first a.s.step a.p.from a.p.count),
          )) p.columns_bound.3 put.ensures.1
          l.invariant.5 put.ensures.0,
    )

pub returns : goal.returns
returns c =
    let l = c.loop-i in
    let a = c.args in
    let p = c.requires in
    let v = a.h.rows in
    let rs = (records_in a.d.now a.s.first a.s.step a.p.from a.p.count) in
    let r = p.columns_bound.4 in
    told_done a.t.now v a.columns rs a.told l.i (24 + 24 * l.k) (a.flags + l.k) (a.values + 8 * l.k)
    (omega (arith, c.loop-i-test.false))
    l.invariant.5
    ∙ ap (λ (x : List ℕ). put_at x 24 (slots_of a.told a.t.now v rs (columns_from a.t.now v 0 v)))
    (columns_whole a.t.now v a.columns (columns_from a.t.now v 0 v) rs a.out.now a.flags a.values (sym p.columns_value)
    (omega (
      arith,
      r.behind,
      ap (λ (x : ℕ). x * a.columns)
          (length_records a.d.now a.s.first a.s.step a.p.from a.p.count),
    )))

pub overflow_mul-k : goal.overflow_mul-k
overflow_mul-k c = omega (arith, small c)

pub overflow_add-k : goal.overflow_add-k
overflow_add-k c = omega (arith, small c)

pub overflow_add-flags : goal.overflow_add-flags
overflow_add-flags c = omega (arith, small c)

pub overflow_mul-k-in-loop-i : goal.overflow_mul-k-in-loop-i
overflow_mul-k-in-loop-i c = omega (arith, small c)

pub overflow_add-values : goal.overflow_add-values
overflow_add-values c = omega (arith, small c)

pub overflow_add-k-in-loop-i : goal.overflow_add-k-in-loop-i
overflow_add-k-in-loop-i c = omega (
  arith,
  left (goal.at.overflow_add-k-in-loop-i c).After-put_columns-arg-in-loop-i-3-1,
  c.put_columns-k.ensures.0,
  c.requires.columns_bound.1,
)

pub shape_of-list : goal.shape_of-list
shape_of-list c = c.loop-i.invariant.0

pub shape_of-allowed : goal.shape_of-allowed
shape_of-allowed c = c.loop-i.invariant.1

pub shape_of-present : goal.shape_of-present
shape_of-present c = c.loop-i.invariant.2

pub shape_of-out : goal.shape_of-out
shape_of-out c = c.loop-i.invariant.3
