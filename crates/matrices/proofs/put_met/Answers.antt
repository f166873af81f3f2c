use mathlib.Core.Path.{refl, sym, ap, ◌∙◌}
use Prim.Native.Nat.{◌+◌, ◌-◌, ◌*◌, ◌≤◌, ◌<◌}
use native.Mathlib.Nat.{add-zero, sub-zero}
use native.Mathlib.Omega.{arith}
use lib.ListN.{length, drop}
use Rattle.little.specs.rule.Bytes.{put_at}
use Rattle.summary.specs.declared.Summary.{Summary}
use Rattle.matrix.specs.rule.Bytes.{summary_bytes}
use Rattle.matrix.specs.Column.{ColumnThere}
use Rattle.matrices.specs.Summaries.{Same, same_of, column_same, summaries_same, same_put}
use Rattle.matrices.specs.Summaries.{length_in, first_there, there_same, one_in, summary_plain}
use Rattle.matrices.specs.Met.{met_as}
use Rattle.matrices.specs.Summaries.{rest_there, rest_put, summaries_none, put_nothing}
use Rattle.matrices.proofs.put_met.Goals as goal
use Rattle.matrices.proofs.put_met.Goals.{In-loop-k}

-- places are small
small : (c : In-loop-k) → let a = c.args in
    (c.loop-k.k ≤ 16777216) × (a.at + 24 * a.m.count ≤ a.flags) × (c.loop-k.k < a.m.count) × (a.flags ≤ a.values)
    × (a.values ≤ 268435456) × (a.at + 24 * a.m.count ≤ length c.loop-k.out)
small c = let p = c.requires.columns_bound in let taken = c.loop-k-test.true in
    (omega (arith, taken, p.0, p.1), p.2, taken, p.3, p.5, omega (arith, p.4, c.loop-k.invariant.0))

same : (c : In-loop-k) → Same c.args.flags
    c.args.out.now c.loop-k.out
same c = same_of c.loop-k.invariant.0 c.loop-k.invariant.1

there : (c : In-loop-k) → let a = c.args in let l = c.loop-k in
    ColumnThere l.out a.columns (a.flags + l.k) (a.values + 8 * l.k) a.records
there c =
    let a = c.args in
    let l = c.loop-k in
    there_same {a = a.flags} (same c) a.columns a.records (a.flags + l.k) (a.values + 8 * l.k) (omega arith)
    (omega (arith, small c))
    (first_there a.out.now a.columns a.records (a.m.count - l.k) (a.flags + l.k) (a.values + 8 * l.k)
    (omega (arith, small c)) l.invariant.2)

pub loop-k-init : goal.loop-k-init
loop-k-init c = (refl, refl, simp (add-zero, sub-zero) c.requires.columns_there, simp (add-zero, sub-zero))

pub met_summary-s-requires : goal.met_summary-s-requires
met_summary-s-requires c =
    let a = c.args in
    let l = c.loop-k in record {
      columns_bound = (c.requires.columns_bound.0, there (goal.at.met_summary-s-requires c).In-loop-k);
      met_column = met_as (column_same {a = a.flags} (same (goal.at.met_summary-s-requires c).In-loop-k) a.columns a.records (a.flags + l.k)
          (a.values + 8 * l.k) (omega arith)
          (omega (arith, small (goal.at.met_summary-s-requires c).In-loop-k))) c.mark_of-mark.ensures
          (c.requires.by_index l.k c.loop-k-test.true);
    }

pub put_summary-requires : goal.put_summary-requires
put_summary-requires c =
    let a = c.args in
    let l = c.loop-k in record {
      at_in_bounds = omega (arith, small (goal.at.put_summary-requires c).In-loop-k);
      t = rw c.met_summary-s.ensures
          (summary_plain l.out a.columns (a.flags + l.k) (a.values + 8 * l.k) a.records (there (goal.at.put_summary-requires c).In-loop-k));
    }

pub loop-k-preserved : goal.loop-k-preserved
loop-k-preserved c =
    let l = c.loop-k in
    let a = c.args in
    let p = c.requires.columns_bound in
    let o = a.out.now in
    let low : l.k + 1 ≤ a.m.count = omega (arith, c.loop-k-test.true) in
    let new = c.put_summary.ensures
    ∙ ap (λ (s : Summary). put_at l.out (a.at + 24 * l.k) (summary_bytes s)) c.met_summary-s.ensures
    ∙ ap (put_at l.out (a.at + 24 * l.k)) (sym
    (one_in l.out a.columns a.records (a.flags + l.k) (a.values + 8 * l.k))) in (
      c.put_summary.auto.out ∙ l.invariant.0,
      ap (drop a.flags) new ∙ same_put l.out a.flags (a.at + 24 * l.k) _
          (omega (arith, low, p.2, length_in l.out a.columns a.records 1 (a.flags + l.k) (a.values + 8 * l.k)))
          ∙ l.invariant.1,
      rest_there o a.columns a.records a.flags a.values a.m.count l.k 1 low l.invariant.2,
      rest_put o a.columns a.records a.flags a.values a.m.count l.k 1 low a.at l.out _
          (new ∙ ap (put_at l.out (a.at + 24 * l.k))
          (sym (summaries_same {a = a.flags} (same (goal.at.loop-k-preserved c).In-loop-k) a.columns
          a.records 1 (a.flags + l.k) (a.values + 8 * l.k) (omega arith) (omega (arith, p.3))))) l.invariant.3,
    )

pub returns : goal.returns
returns c =
    let a = c.args in
    let l = c.loop-k in
    sym (put_nothing l.out (a.at + 24 * l.k))
    ∙ ap (put_at l.out (a.at + 24 * l.k)) (sym (summaries_none a.out.now a.columns (a.flags + l.k) (a.values + 8 * l.k)
    a.records a.m.count l.k c.loop-k-test.false))
    ∙ l.invariant.3

pub overflow_add-flags : goal.overflow_add-flags
overflow_add-flags c = omega (arith, small (goal.at.overflow_add-flags c).In-loop-k)

pub overflow_mul-k : goal.overflow_mul-k
overflow_mul-k c = omega (arith, small (goal.at.overflow_mul-k c).In-loop-k)

pub overflow_add-values : goal.overflow_add-values
overflow_add-values c = omega (arith, small (goal.at.overflow_add-values c).In-loop-k)

pub overflow_mul-k-in-loop-k : goal.overflow_mul-k-in-loop-k
overflow_mul-k-in-loop-k c = omega (arith, small (goal.at.overflow_mul-k-in-loop-k c).In-loop-k)

pub overflow_add-at : goal.overflow_add-at
overflow_add-at c = omega (arith, small (goal.at.overflow_add-at c).In-loop-k)

pub shape_of-out : goal.shape_of-out
shape_of-out c = c.loop-k.invariant.0
