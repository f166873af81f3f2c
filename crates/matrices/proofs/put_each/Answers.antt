use mathlib.Core.Path.{◌≡◌, refl, ap, ◌∙◌, subst}
use mathlib.Core.List.{List}
use Prim.Native.Nat.{ℕ, ◌+◌, ◌*◌, ◌≤◌, ◌<◌}
use native.Mathlib.Nat.{add-zero, zero-mul}
use native.Mathlib.Omega.{arith}
use lib.ListN.{length}
use Rattle.std.specs.Int.{from_bool}
use Rattle.cuts.specs.Records.{part}
use Rattle.fields.specs.rule.Row.{reading_of}
use Rattle.sets.specs.rule.Sets.{is_illegal}
use Rattle.columns.specs.Reach.{Readable}
use Rattle.columns.specs.Room.{Room, room_on}
use Rattle.columns.specs.Rows.{entries_by}
use Rattle.below.specs.Below.{and_left, and_right}
use mathlib.Core.Bool.{Bool, true, false, cond}
use Rattle.matrices.specs.Entries.{record_at}
use Rattle.matrices.specs.Parts.{records_in, length_records, record_in}
use Rattle.matrices.specs.Met.{going_start, going_step, going_over, count_low}
use Rattle.matrices.specs.Blocks.{put_each, cells_below, more_cells, each_step, each_done}
use Rattle.matrices.proofs.put_each.Goals as goal
use Rattle.matrices.proofs.put_each.Goals.{In-loop-n, After-loop-n}

-- a set more, or none
one : (b : Bool) → (from_bool b ≡ cond b 1 0) × (from_bool b ≤ 1)
one true = (refl, omega arith)
one false = (refl, omega arith)

-- the record that is at hand, and the room for its entries
low : (c : In-loop-n) → c.loop-n.n
    < length (records_in c.args.d.now
    c.args.s.first c.args.s.step
    c.args.p.from c.args.p.count)
low c = let a = c.args in
    omega (arith, c.loop-n-test.true, length_records a.d.now a.s.first a.s.step a.p.from a.p.count)

inside : (c : In-loop-n) → let a = c.args in
    a.p.from + c.loop-n.n * a.s.step + a.s.first ≤ length a.d.now
inside c = omega (arith, c.requires.steps.0.inside c.loop-n.n c.loop-n-test.true)

there : (c : In-loop-n) → let a = c.args in let l = c.loop-n in
    record_at (records_in a.d.now a.s.first a.s.step a.p.from a.p.count) l.n
    ≡ part a.d.now (a.p.from + l.n * a.s.step) (a.p.from + l.n * a.s.step + a.s.first)
there c =
    let a = c.args in
    record_in a.d.now a.s.first a.s.step a.p.from a.p.count c.loop-n.n c.loop-n-test.true

room : (c : In-loop-n) → let a = c.args in let l = c.loop-n in
    Room (a.flags + l.n * a.columns) (a.values + 8 * (l.n * a.columns)) (length a.out.now) a.m.count
room c = c.requires.columns_bound.1 c.loop-n.n c.loop-n-test.true

pub loop-n-init : goal.loop-n-init
loop-n-init c = (
  refl,
  refl,
  refl,
  simp (zero-mul, add-zero),
  omega arith,
  λ e. going_start _ _ _ _ _ c.requires.marked_row.1,
)

pub put_row-put-requires : goal.put_row-put-requires
put_row-put-requires c =
    let l = c.loop-n in
    let a = c.args in
    let p = c.requires in record {
      tens = (
        p.tens.0,
        subst (λ (r : List ℕ). Readable a.t.now a.rows a.row (length r)) (there (goal.at.put_row-put-requires c).In-loop-n)
            (p.steps.1 l.n (low (goal.at.put_row-put-requires c).In-loop-n)).0,
        l.invariant.0 ∙ p.tens.1,
      );
      bytes_value = subst (λ (r : List ℕ). is_illegal (reading_of a.t.now a.rows a.row r) ≡ false)
          (there (goal.at.put_row-put-requires c).In-loop-n)
          (p.steps.1 l.n (low (goal.at.put_row-put-requires c).In-loop-n)).1;
      marked_row = (p.marked_row.0, l.invariant.1 ∙ p.tens.2);
      room = room_on l.invariant.2 (room (goal.at.put_row-put-requires c).In-loop-n);
    }

pub overflow_mul-k : goal.overflow_mul-k
overflow_mul-k c = let a = c.args in
    omega (arith, cells_below c.loop-n.n a.p.count a.columns c.loop-n-test.true, c.requires.columns_bound.0)

pub loop-n-preserved : goal.loop-n-preserved
loop-n-preserved c =
    let put = c.put_row-put in
    let l = c.loop-n in
    let a = c.args in
    let m : (l.n + 1) * a.columns ≡ l.n * a.columns + a.columns = omega (arith, more_cells l.n a.columns) in (
      put.auto.list ∙ l.invariant.0,
      put.auto.present ∙ l.invariant.1,
      put.auto.out ∙ l.invariant.2,
      rw m (each_step (λ r. entries_by a.row.kind a.t.now a.rows a.row r) a.columns
          (records_in a.d.now a.s.first a.s.step a.p.from a.p.count) l.n
          (l.n * a.columns) a.flags a.values l.out (low (goal.at.loop-n-preserved c).In-loop-n)
          (there (goal.at.loop-n-preserved c).In-loop-n)
          put.ensures.0 l.invariant.3),
      omega (arith, l.invariant.4, c.from-held.ensures, (one put.result.there).1),
      λ e. going_step (λ r. entries_by a.row.kind a.t.now a.rows a.row r)
          (records_in a.d.now a.s.first a.s.step a.p.from a.p.count) l.n (low (goal.at.loop-n-preserved c).In-loop-n)
          (there (goal.at.loop-n-preserved c).In-loop-n) (omega (
            arith,
            c.requires.marked_row.0.many,
            count_low a.t.now a.rows a.row a.row.kind,
          )) (l.invariant.5 (and_left l.near _ e))
          (put.ensures.1 (and_right l.near _ e)) (ap (λ (k : ℕ). l.held + k) (c.from-held.ensures ∙ (one put.result.there).0)),
    )

-- the entries of all records are put
done : (c : After-loop-n) → let a = c.args in
    c.loop-n.out ≡ put_each (λ r. entries_by a.row.kind a.t.now a.rows a.row r) a.columns a.out.now a.flags a.values
    (records_in a.d.now a.s.first a.s.step a.p.from a.p.count)
done c =
    let l = c.loop-n in
    let a = c.args in
    each_done (λ r. entries_by a.row.kind a.t.now a.rows a.row r) a.columns
    (records_in a.d.now a.s.first a.s.step a.p.from a.p.count) l.n
    (a.flags + l.n * a.columns) (a.values + 8 * (l.n * a.columns))
    (omega (arith, c.loop-n-test.false, length_records a.d.now a.s.first a.s.step a.p.from a.p.count)) l.invariant.3

pub returns-then-near : goal.returns-then-near
returns-then-near c =
    let l = c.loop-n in
    let a = c.args in (
      done (goal.at.returns-then-near c).After-loop-n,
      going_over (λ r. entries_by a.row.kind a.t.now a.rows a.row r)
          (records_in a.d.now a.s.first a.s.step a.p.from a.p.count) l.n
          (omega (arith, c.loop-n-test.false, length_records a.d.now a.s.first a.s.step a.p.from a.p.count))
          (l.invariant.5 c.if-near.true),
    )

pub returns-else-near : goal.returns-else-near
returns-else-near c = (done (goal.at.returns-else-near c).After-loop-n, tt)

pub overflow_add-end : goal.overflow_add-end
overflow_add-end c = omega (arith, inside c)

pub slice_bounds-put_row-start : goal.slice_bounds-put_row-start
slice_bounds-put_row-start c = omega (arith, inside c)

pub slice_bounds-put_row-end : goal.slice_bounds-put_row-end
slice_bounds-put_row-end c = omega (arith, inside c)

pub overflow_add-flags : goal.overflow_add-flags
overflow_add-flags c = omega (
  arith,
  (room (goal.at.overflow_add-flags c).In-loop-n).behind,
  (room (goal.at.overflow_add-flags c).In-loop-n).inside,
)

pub overflow_add-values : goal.overflow_add-values
overflow_add-values c = omega (
  arith,
  (room (goal.at.overflow_add-values c).In-loop-n).behind,
  (room (goal.at.overflow_add-values c).In-loop-n).inside,
)

pub overflow_add-held : goal.overflow_add-held
overflow_add-held c = omega (
  arith,
  c.loop-n.invariant.4,
  c.loop-n-test.true,
  c.from-held.ensures,
  (one c.put_row-put.result.there).1,
)
