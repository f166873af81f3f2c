use mathlib.Core.Path.{◌≡◌, refl, sym, ap, ◌∙◌}
use mathlib.Core.List.{List}
use Prim.Native.Nat.{ℕ, ◌+◌, ◌-◌, ◌*◌, ◌≤◌}
use native.Mathlib.Nat.{mul-le-mul_right}
use native.Mathlib.Omega.{arith}
use lib.ListN.{length}
use Rattle.little.specs.rule.Bytes.{put_at}
use Rattle.matrix.specs.Put.{put_entries}
use Rattle.columns.specs.rule.Columns.{columns_from}
use Rattle.matrices.specs.rule.Matrix.{matrix_entries, summaries_of}
use Rattle.matrices.specs.Parts.{records_in, Steps, EachSound, length_records, records_on, records_all, steps_first, sound_first}
use Rattle.matrices.specs.Parts.{many_cells, times_add, left_cells}
use Rattle.matrices.specs.Parts.{even_records, even_steps, even_sound}
use Rattle.matrices.specs.Stand.{slots_of}
use Rattle.matrices.specs.More.{summed_put, block_step, put_again, blocks_over}
use Rattle.matrices.proofs.put_records.Goals as goal
use Rattle.matrices.proofs.put_records.Goals.{After-min-count, After-step_of-s, Start}

-- what is known before the first block
steps : (c : After-step_of-s) → let a = c.args in let s = c.step_of-s.result in
    Steps a.d.now s.first s.step 0 a.records
steps c = even_steps c.step_of-s.ensures c.requires.all_of.1

sound : (c : After-step_of-s) → let a = c.args in let s = c.step_of-s.result in
    EachSound a.t.now a.h (records_in a.d.now s.first s.step 0 a.records)
sound c =
    let a = c.args in
    let p = c.requires.all_of in
    even_sound c.step_of-s.ensures a.t.now a.h p.1 p.2 p.3

-- so many records have their places
small : (c : Start) (n : ℕ) → n ≤ c.args.records → let a = c.args in (a.values + 8 * (n * a.columns) ≤ 16777216)
    × (a.flags + n * a.columns ≤ a.values) × (24 + 24 * a.columns ≤ a.flags)
    × (a.values + 8 * (n * a.columns) ≤ length a.out.now)
    × (n ≤ n * a.columns)
small c n l =
    let a = c.args in
    let p = c.requires.le_columns in
    let m = mul-le-mul_right {m = n} {n = a.records} a.columns l in (
      omega (arith, m, p.2),
      omega (arith, m, p.3.behind),
      p.1,
      omega (arith, m, p.3.inside),
      many_cells n a.columns p.0,
    )

-- the next block is one of the records that are left
next : (c : After-min-count) → c.loop-n.n + c.min-count.result
    ≤ c.args.records
next c = omega (arith, c.min-count.ensures, c.loop-n-test.true)

pub put_rows-requires : goal.put_rows-requires
put_rows-requires c =
    let a = c.args in
    let s = c.step_of-s.result in
    let size = c.block_of-size.result in
    let l = c.block_of-size.ensures.0 in
    let m = small (goal.at.put_rows-requires c).Start size l in record {
      ready = c.requires.ready;
      columns_value = c.requires.columns_value;
      steps = (
        steps_first a.d.now s.first s.step (steps (goal.at.put_rows-requires c).After-step_of-s) size l,
        sound_first a.d.now s.first s.step a.t.now a.h (sound (goal.at.put_rows-requires c).After-step_of-s) size l,
      );
      columns_bound = (
        omega (arith, m),
        omega (arith, m),
        omega (arith, m),
        omega (arith, m),
        record { behind = omega (arith, m); inside = omega (arith, m) },
      );
    }

pub loop-n-init : goal.loop-n-init
unfolding slots_of
loop-n-init c =
    let a = c.args in
    let s = c.step_of-s.result in
    let size = c.block_of-size.result in
    let cs = columns_from a.t.now a.h.rows 0 a.h.rows in
    let rs = records_in a.d.now s.first s.step 0 size in (
      c.block_of-size.ensures.0,
      refl,
      refl,
      refl,
      refl,
      put_again a.t.now a.h.rows cs rs (put_entries a.out.now a.flags a.values
          (matrix_entries a.t.now a.h.rows cs rs))
          c.put_rows.ensures,
      refl,
    )

pub put_block-requires : goal.put_block-requires
put_block-requires c =
    let a = c.args in
    let p = c.requires in
    let s = c.step_of-s.result in
    let l = c.loop-n in
    let put = c.put_rows in
    let count = c.min-count.result in
    let m = small (goal.at.put_block-requires c).Start (l.n + count) (next (goal.at.put_block-requires c).After-min-count) in
    let m0 = small (goal.at.put_block-requires c).Start l.n l.invariant.0 in
    let rs = records_in a.d.now s.first s.step 0 l.n in
    let ol : length l.out ≡ length a.out.now = l.invariant.4 ∙ put.auto.out in record {
      ready = record {
        tens = p.ready.tens;
        tested = p.ready.tested;
        room = l.invariant.1 ∙ put.auto.list ∙ p.ready.room;
        marks = l.invariant.2 ∙ put.auto.allowed ∙ p.ready.marks;
        marks_too = l.invariant.3 ∙ put.auto.present ∙ p.ready.marks_too;
      };
      columns_value = p.columns_value;
      steps = (
        steps_first a.d.now s.first s.step (steps (goal.at.put_block-requires c).After-step_of-s) (l.n + count)
            (next (goal.at.put_block-requires c).After-min-count),
        sound_first a.d.now s.first s.step a.t.now a.h (sound (goal.at.put_block-requires c).After-step_of-s) (l.n + count)
            (next (goal.at.put_block-requires c).After-min-count),
        summed_put p.ready.tested l.out rs
            (sound_first a.d.now s.first s.step a.t.now a.h (sound (goal.at.put_block-requires c).After-step_of-s) l.n l.invariant.0)
            (omega (arith, m0, ol, p.columns_value))
            (omega (arith, m0, length_records a.d.now s.first s.step 0 l.n)) (sym l.invariant.5),
      );
      le_columns = (
        p.le_columns.0,
        p.le_columns.1,
        omega (arith, m),
        record { behind = omega (arith, m); inside = omega (arith, m, ol) },
      );
    }

pub loop-n-preserved : goal.loop-n-preserved
loop-n-preserved c =
    let a = c.args in
    let p = c.requires in
    let s = c.step_of-s.result in
    let l = c.loop-n in
    let put = c.put_block in
    let n = l.n in
    let count = c.min-count.result in
    let v = a.h.rows in
    let t = a.t.now in
    let d = a.d.now in
    let cs = columns_from t v 0 v in
    let low = next (goal.at.loop-n-preserved c).After-min-count in
    let m0 = small (goal.at.loop-n-preserved c).Start a.records (omega arith) in
    let m1 = small (goal.at.loop-n-preserved c).Start n l.invariant.0 in
    let both = records_on d s.first s.step a.records n count low in
    let now = records_in d s.first s.step (n * s.step) count in
    let left = records_in d s.first s.step (n * s.step) (a.records - n) in
    let rest = records_in d s.first s.step ((n + count) * s.step) (a.records - (n + count)) in
    let some = records_in d s.first s.step 0 (n + count) in
    let all = records_in d s.first s.step 0 a.records in
    let e = times_add a.columns n count in
    let pf : a.flags + (n + count) * a.columns ≡ a.flags + n * a.columns + count * a.columns = omega (arith, e) in
    let pw : a.values + 8 * ((n + count) * a.columns) ≡ a.values + 8 * (n * a.columns)
    + 8 * (count * a.columns) = omega (arith, e) in (
      low,
      put.auto.list ∙ l.invariant.1,
      put.auto.allowed ∙ l.invariant.2,
      put.auto.present ∙ l.invariant.3,
      put.auto.out ∙ l.invariant.4,
      put_again t v cs some (put_entries l.out (a.flags + n * a.columns) (a.values + 8 * (n * a.columns)) (matrix_entries t v cs now))
          put.ensures,
      rw (pf, pw) (block_step t v cs now rest left some all both l.out (a.flags + n * a.columns) (a.values + 8 * (n * a.columns))
          count a.columns (sym (length_records d s.first s.step (n * s.step) count)) p.columns_value (omega (arith, m1))
          (omega (
            arith,
            m0,
            left_cells a.records n a.columns l.invariant.0,
            ap (λ (x : ℕ). x * a.columns) (length_records d s.first s.step (n * s.step) (a.records - n)),
          ))
          put.ensures ∙ l.invariant.6),
    )

pub returns : goal.returns
unfolding slots_of
returns c =
    let a = c.args in
    let p = c.requires in
    let s = c.step_of-s.result in
    let size = c.block_of-size.result in
    let l = c.loop-n in
    let v = a.h.rows in
    let t = a.t.now in
    let d = a.d.now in
    let cs = columns_from t v 0 v in
    let first = records_in d s.first s.step 0 size in
    let rest = records_in d s.first s.step (size * s.step) (a.records - size) in
    let all = records_in d s.first s.step 0 a.records in
    let m0 = small (goal.at.returns c).Start a.records (omega arith) in
    let over : l.n ≡ a.records = omega (arith, l.invariant.0, c.loop-n-test.false) in
    blocks_over t v cs d s.first s.step a.records l.n over (a.flags + l.n * a.columns) (a.values + 8 * (l.n * a.columns))
    l.invariant.5 l.invariant.6
    ∙ block_step t v cs first rest all first all (records_all d s.first s.step a.records size
    c.block_of-size.ensures.0)
    a.out.now a.flags a.values size a.columns (sym (length_records d s.first s.step 0 size)) p.columns_value
    (omega (arith, m0))
    (omega (arith, m0, ap (λ (x : ℕ). x * a.columns) (length_records d s.first s.step 0 a.records)))
    c.put_rows.ensures
    ∙ ap (λ (rs : List (List ℕ)). put_at (put_entries a.out.now a.flags a.values (matrix_entries t v cs rs)) 24
    (summaries_of t v rs cs))
    (even_records
    c.step_of-s.ensures p.all_of.1)

pub step_of-s-requires : goal.step_of-s-requires
step_of-s-requires c = c.requires.all_of.0

pub block_of-size-requires : goal.block_of-size-requires
block_of-size-requires c = c.requires.le_columns.0

pub overflow_sub-records : goal.overflow_sub-records
overflow_sub-records c = omega (arith, c.loop-n-test.true)

pub overflow_add-n : goal.overflow_add-n
overflow_add-n c = omega (
  arith,
  next (goal.at.overflow_add-n c).After-min-count,
  small (goal.at.overflow_add-n c).Start
      c.args.records (omega arith),
)

pub loop-n-smaller : goal.loop-n-smaller
loop-n-smaller c = omega (
  arith,
  c.loop-n-test.true,
  c.min-count.ensures,
  c.block_of-size.ensures.1 (omega (arith, c.loop-n-test.true)),
)

pub shape_of-list : goal.shape_of-list
shape_of-list c = c.loop-n.invariant.1
    ∙ c.put_rows.auto.list

pub shape_of-allowed : goal.shape_of-allowed
shape_of-allowed c = c.loop-n.invariant.2
    ∙ c.put_rows.auto.allowed

pub shape_of-present : goal.shape_of-present
shape_of-present c = c.loop-n.invariant.3
    ∙ c.put_rows.auto.present

pub shape_of-out : goal.shape_of-out
shape_of-out c = c.loop-n.invariant.4
    ∙ c.put_rows.auto.out
