use mathlib.Core.Path.{◌≡◌, refl, sym, ap, ◌∙◌}
use Prim.Native.Nat.{ℕ, ◌+◌, ◌*◌, ◌≤◌, ◌<◌}
use native.Mathlib.Nat.{add-zero, sub-zero}
use native.Mathlib.Omega.{arith}
use lib.ListN.{length, drop}
use lib.Ieee.{binary64}
use lib.Ieee.Bits.{nan_bits_is}
use Rattle.little.specs.rule.Bytes.{put_at}
use Rattle.little.specs.Bytes.{number_at}
use Rattle.summary.specs.declared.Summary.{Summary}
use Rattle.summary.specs.rule.Summary.{extended_by}
use Rattle.matrix.specs.Bytes.{length_summary}
use Rattle.matrix.specs.Back.{summary_at}
use Rattle.matrix.specs.Column.{ColumnThere, column_in}
use Rattle.matrices.specs.Summaries.{Same, same_of, same_put, column_same, there_same, more_plain, put_nothing}
use Rattle.matrices.specs.More.{ReadyAt, ready_same, summary_same, extended_step, extended_over, drop_on}
use Rattle.matrices.proofs.more_summaries.Goals as goal
use Rattle.matrices.proofs.more_summaries.Goals.{In-loop-k}

-- what stands from here on is as it was
same : (c : In-loop-k) → let l = c.loop-k in
    Same (24 + 24 * l.k) c.args.out.now l.out
same c = same_of c.loop-k.invariant.0 c.loop-k.invariant.1

ready : (c : In-loop-k) → let l = c.loop-k in
    ReadyAt l.out c.args.records (24 + 24 * l.k)
ready c = ready_same {a = 24 + 24 * c.loop-k.k} (same c) (24 + 24 * c.loop-k.k) (omega arith)
    (c.requires.each_there.1 c.loop-k.k c.loop-k-test.true)

there : (c : In-loop-k) → let l = c.loop-k in let a = c.args in
    ColumnThere l.out a.columns (a.flags + l.k) (a.values + 8 * l.k) a.records
there c =
    let l = c.loop-k in
    let a = c.args in
    let p = c.requires.columns_bound in
    there_same {a = 24 + 24 * l.k} (same c) a.columns a.records (a.flags + l.k) (a.values + 8 * l.k)
    (omega (arith, p.1)) (omega (arith, p.1, p.2))
    (c.requires.each_there.0 l.k c.loop-k-test.true)

small : (c : In-loop-k) → let a = c.args in
    (c.loop-k.k < a.columns) × (24 + 24 * a.columns ≤ a.flags) × (a.flags ≤ a.values) × (a.values ≤ 268435456)
    × (24 + 24 * a.columns ≤ length c.loop-k.out)
small c = let p = c.requires.columns_bound in (c.loop-k-test.true, p.1, p.2, p.3, omega (arith, p.4, c.loop-k.invariant.0))

pub loop-k-init : goal.loop-k-init
loop-k-init c = (refl, refl, simp (add-zero, sub-zero))

pub get_summary-begun-requires : goal.get_summary-begun-requires
get_summary-begun-requires c = record {
  at_in_bounds = omega (arith, small (goal.at.get_summary-begun-requires c).In-loop-k);
  t = ((ready (goal.at.get_summary-begun-requires c).In-loop-k).least, (ready (goal.at.get_summary-begun-requires c).In-loop-k).most);
}

pub column_more-sum-requires : goal.column_more-sum-requires
column_more-sum-requires c = record {
  step_bound = c.requires.columns_bound.0;
  records_bound = rw c.get_summary-begun.ensures (ready (goal.at.column_more-sum-requires c).In-loop-k).low;
  column_there = there (goal.at.column_more-sum-requires c).In-loop-k;
}

pub put_summary-requires : goal.put_summary-requires
put_summary-requires c =
    let l = c.loop-k in
    let a = c.args in
    let s = l.out in
    let at = 24 + 24 * l.k in record {
      at_in_bounds = omega (arith, small (goal.at.put_summary-requires c).In-loop-k);
      t = rw (c.column_more-sum.ensures, c.get_summary-begun.ensures)
          (more_plain s a.columns (a.flags + l.k) (a.values + 8 * l.k) a.records (summary_at s at)
          (there (goal.at.put_summary-requires c).In-loop-k)
          (rw (nan_bits_is binary64 (number_at 8 (at + 8) s)) at (ready (goal.at.put_summary-requires c).In-loop-k).least)
          (rw (nan_bits_is binary64 (number_at 8 (at + 16) s)) at (ready (goal.at.put_summary-requires c).In-loop-k).most));
    }

pub loop-k-preserved : goal.loop-k-preserved
loop-k-preserved c =
    let l = c.loop-k in
    let a = c.args in
    let o = a.out.now in
    let at = 24 + 24 * l.k in
    let x = c.column_more-sum.result in
    let put = c.put_summary.ensures in
    let next : 24 + 24 * (l.k + 1) ≡ at + 24 = omega arith in
    let is : x ≡ extended_by (summary_at o at) (column_in o a.columns (a.flags + l.k) (a.values + 8 * l.k) a.records) =
    c.column_more-sum.ensures
    ∙ ap (λ (b : Summary). extended_by b (column_in l.out a.columns (a.flags + l.k) (a.values + 8 * l.k) a.records))
    (c.get_summary-begun.ensures ∙ sym (summary_same {a = at} (same (goal.at.loop-k-preserved c).In-loop-k) at (omega arith)))
    ∙ ap (extended_by (summary_at o at)) (sym (column_same {a = at} (same (goal.at.loop-k-preserved c).In-loop-k) a.columns a.records
    (a.flags + l.k)
    (a.values + 8 * l.k) (omega (arith, small (goal.at.loop-k-preserved c).In-loop-k))
    (omega (arith, small (goal.at.loop-k-preserved c).In-loop-k)))) in (
      c.put_summary.auto.out ∙ l.invariant.0,
      ap (drop (24 + 24 * (l.k + 1))) put
          ∙ same_put l.out (24 + 24 * (l.k + 1)) at _ (omega (arith, length_summary x))
          ∙ ap (λ (i : ℕ). drop i l.out) next ∙ drop_on at l.out o l.invariant.1 ∙ ap (λ (i : ℕ). drop i o) (sym next),
      extended_step o a.columns a.flags a.values a.records l.k a.columns c.loop-k-test.true l.out x put is
          l.invariant.2,
    )

pub returns : goal.returns
returns c =
    let a = c.args in
    let l = c.loop-k in
    sym (put_nothing l.out (24 + 24 * l.k))
    ∙ ap (put_at l.out (24 + 24 * l.k)) (sym (extended_over a.out.now a.columns a.flags a.values a.records l.k
    a.columns c.loop-k-test.false))
    ∙ l.invariant.2

pub overflow_mul-at : goal.overflow_mul-at
overflow_mul-at c = omega (arith, small c)

pub overflow_add-at : goal.overflow_add-at
overflow_add-at c = omega (arith, small c)

pub overflow_add-flags : goal.overflow_add-flags
overflow_add-flags c = omega (arith, small (goal.at.overflow_add-flags c).In-loop-k)

pub overflow_mul-k : goal.overflow_mul-k
overflow_mul-k c = omega (arith, small (goal.at.overflow_mul-k c).In-loop-k)

pub overflow_add-values : goal.overflow_add-values
overflow_add-values c = omega (arith, small (goal.at.overflow_add-values c).In-loop-k)

pub shape_of-out : goal.shape_of-out
shape_of-out c = c.loop-k.invariant.0
