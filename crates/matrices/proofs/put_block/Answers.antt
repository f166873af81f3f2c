-- `matrices::put_block` meets its contract: the block's entries, then the summaries extended by its columns.
-- Assumes nothing.
use mathlib.Core.Path.{◌≡◌, sym, ◌∙◌}
use Prim.Native.Nat.{◌+◌, ◌*◌, ◌≤◌}
use native.Mathlib.Omega.{arith}
use lib.ListN.{length}
use Rattle.matrix.specs.Put.{put_entries}
use Rattle.columns.specs.rule.Columns.{columns_from}
use Rattle.matrices.specs.rule.Matrix.{matrix_entries}
use Rattle.matrices.specs.Parts.{records_in, length_records, records_split, steps_part, sound_first, sound_part, times_add, many_cells}
use Rattle.matrices.specs.Summaries.{put_nothing}
use Rattle.matrices.specs.Stand.{slots_of}
use Rattle.matrices.specs.More.{block_there, block_ready, block_done}
use Rattle.matrices.proofs.put_block.Goals as goal
use Rattle.matrices.proofs.put_block.Goals.{Start}

-- places are small
small : (c : Start) → let a = c.args in (a.n * a.columns + a.count * a.columns ≡ (a.n + a.count) * a.columns)
    × (a.values + 8 * (a.n * a.columns) + 8 * (a.count * a.columns) ≤ 16777216)
    × (a.flags + (a.n * a.columns + a.count * a.columns) ≤ a.values) × (24 + 24 * a.columns ≤ a.flags)
    × (a.values + 8 * (a.n * a.columns) + 8 * (a.count * a.columns) ≤ length a.out.now)
small c =
    let a = c.args in
    let p = c.requires.le_columns in
    let e = times_add a.columns a.n a.count in
    (sym e, omega (arith, e, p.2), omega (arith, e, p.3.behind), p.1, omega (arith, e, p.3.inside))

pub put_rows-requires : goal.put_rows-requires
put_rows-requires c =
    let a = c.args in
    let p = c.requires in record {
      ready = p.ready;
      columns_value = p.columns_value;
      steps = (
        steps_part a.d.now a.s.first a.s.step a.n a.count p.steps.0,
        sound_part a.d.now a.s.first a.s.step a.t.now a.h a.n a.count p.steps.1,
      );
      columns_bound = (
        omega (arith, small (goal.at.put_rows-requires c).Start),
        omega (arith, small (goal.at.put_rows-requires c).Start),
        omega (arith, small (goal.at.put_rows-requires c).Start),
        omega (arith, small (goal.at.put_rows-requires c).Start),
        record {
          behind = omega (arith, small (goal.at.put_rows-requires c).Start);
          inside = omega
              (arith, small (goal.at.put_rows-requires c).Start);
        },
      );
    }

pub more_summaries-requires : goal.more_summaries-requires
unfolding slots_of
more_summaries-requires c =
    let a = c.args in
    let p = c.requires in
    let put = c.put_rows in
    let is = put.ensures ∙ put_nothing (put_entries a.out.now (a.flags + a.n * a.columns) (a.values + 8 * (a.n * a.columns))
    (matrix_entries a.t.now a.h.rows (columns_from a.t.now a.h.rows 0 a.h.rows)
    (records_in a.d.now a.s.first a.s.step (a.n * a.s.step) a.count))) 24 in
    let xs = records_in a.d.now a.s.first a.s.step 0 a.n in record {
      columns_bound = (
        omega (arith, small (goal.at.more_summaries-requires c).Start),
        omega (arith, small (goal.at.more_summaries-requires c).Start),
        omega (arith, small (goal.at.more_summaries-requires c).Start),
        omega (arith, small (goal.at.more_summaries-requires c).Start),
        omega (arith, small (goal.at.more_summaries-requires c).Start, put.auto.out),
      );
      each_there = (
        block_there p.ready.tested (records_in a.d.now a.s.first a.s.step (a.n * a.s.step) a.count)
            (sound_part a.d.now a.s.first a.s.step a.t.now a.h a.n a.count p.steps.1) a.out.now
            (a.flags + a.n * a.columns) (a.values + 8 * (a.n * a.columns)) a.count a.columns
            (sym (length_records a.d.now a.s.first a.s.step (a.n * a.s.step) a.count)) p.columns_value
            (omega (arith, small (goal.at.more_summaries-requires c).Start))
            (omega (arith, small (goal.at.more_summaries-requires c).Start))
            (omega (arith, small (goal.at.more_summaries-requires c).Start)) is,
        block_ready p.ready.tested (records_in a.d.now a.s.first a.s.step (a.n * a.s.step) a.count)
            (sound_part a.d.now a.s.first a.s.step a.t.now a.h a.n a.count p.steps.1) a.out.now
            (a.flags + a.n * a.columns) (a.values + 8 * (a.n * a.columns)) a.count a.columns
            (sym (length_records a.d.now a.s.first a.s.step (a.n * a.s.step) a.count)) p.columns_value
            (omega (arith, small (goal.at.more_summaries-requires c).Start))
            (omega (arith, small (goal.at.more_summaries-requires c).Start))
            (omega (arith, small (goal.at.more_summaries-requires c).Start)) is xs p.steps.2
            (sound_first a.d.now a.s.first a.s.step a.t.now a.h p.steps.1 a.n (omega arith))
            (omega (
              arith,
              length_records a.d.now a.s.first a.s.step 0 a.n,
              small (goal.at.more_summaries-requires c).Start,
              many_cells a.n a.columns
                  p.le_columns.0,
              many_cells a.count a.columns p.le_columns.0,
            )),
      );
    }

pub returns : goal.returns
unfolding slots_of
returns c =
    let a = c.args in
    let p = c.requires in
    let is = c.put_rows.ensures
    ∙ put_nothing (put_entries a.out.now (a.flags + a.n * a.columns) (a.values + 8 * (a.n * a.columns))
    (matrix_entries a.t.now a.h.rows (columns_from a.t.now a.h.rows 0 a.h.rows)
    (records_in a.d.now a.s.first a.s.step (a.n * a.s.step) a.count))) 24 in
    block_done p.ready.tested (records_in a.d.now a.s.first a.s.step (a.n * a.s.step) a.count)
    (sound_part a.d.now a.s.first a.s.step a.t.now a.h a.n a.count p.steps.1) a.out.now
    (a.flags + a.n * a.columns) (a.values + 8 * (a.n * a.columns)) a.count a.columns
    (sym (length_records a.d.now a.s.first a.s.step (a.n * a.s.step) a.count)) p.columns_value
    (omega (arith, small (goal.at.returns c).Start)) (omega (arith, small (goal.at.returns c).Start))
    (omega (arith, small (goal.at.returns c).Start)) is
    (records_in a.d.now a.s.first a.s.step 0 a.n) p.steps.2
    (records_in a.d.now a.s.first a.s.step 0 (a.n + a.count))
    (records_split a.d.now a.s.first a.s.step a.n a.count) c.more_summaries.ensures

pub overflow_mul-k : goal.overflow_mul-k
overflow_mul-k c = omega (arith, small (goal.at.overflow_mul-k c).Start)

pub overflow_mul-p : goal.overflow_mul-p
overflow_mul-p c =
    let a = c.args in
    omega (arith, times_add a.s.step a.n a.count, c.requires.steps.0.whole)

pub overflow_add-flags : goal.overflow_add-flags
overflow_add-flags c = omega (arith, small (goal.at.overflow_add-flags c).Start)

pub overflow_mul-k-2 : goal.overflow_mul-k-2
overflow_mul-k-2 c = omega (arith, small (goal.at.overflow_mul-k-2 c).Start)

pub overflow_add-values : goal.overflow_add-values
overflow_add-values c = omega (arith, small (goal.at.overflow_add-values c).Start)

pub overflow_add-flags-2 : goal.overflow_add-flags-2
overflow_add-flags-2 c = omega (
  arith,
  small
      (goal.at.overflow_add-flags-2 c).Start,
)

pub overflow_mul-k-3 : goal.overflow_mul-k-3
overflow_mul-k-3 c = omega (
  arith,
  small
      (goal.at.overflow_mul-k-3 c).Start,
)

pub overflow_add-values-2 : goal.overflow_add-values-2
overflow_add-values-2 c = omega (
  arith,
  small
      (goal.at.overflow_add-values-2 c).Start,
)
