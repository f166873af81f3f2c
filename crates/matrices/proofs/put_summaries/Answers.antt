use mathlib.Core.Path.{refl, sym, ap, ◌∙◌}
use Prim.Native.Nat.{◌+◌, ◌-◌, ◌*◌, ◌≤◌, ◌<◌}
use native.Mathlib.Nat.{add-zero, sub-zero}
use native.Mathlib.Omega.{arith}
use lib.ListN.{drop}
use Rattle.little.specs.rule.Bytes.{put_at}
use Rattle.matrices.specs.Summaries.{Same, same_of, columns_same, summaries_same, same_put}
use Rattle.matrices.specs.Summaries.{length_in}
use Rattle.matrices.specs.Summaries.{rest_there, rest_put, summaries_none, put_nothing}
use Rattle.matrices.proofs.put_summaries.Goals as goal
use Rattle.matrices.proofs.put_summaries.Goals.{After-put_some-arg-1}

-- places are small
small : (c : After-put_some-arg-1) → let a = c.args in
    (c.loop-k.k ≤ 16777216) × (a.at + 24 * a.m.count ≤ a.flags)
    × (c.loop-k.k < a.m.count) × (a.flags ≤ a.values)
    × (a.values ≤ 268435456)
small c = let p = c.requires.columns_bound in let taken = c.loop-k-test.true in
    (omega (arith, taken, p.0, p.1), p.2, taken, p.3, p.5)

pub put_met-requires : goal.put_met-requires
put_met-requires c = let p = c.requires in record {
  columns_bound = p.columns_bound;
  columns_there = p.columns_there;
  by_index = rw c.in-Some.is at p.met_column;
}

pub loop-k-init : goal.loop-k-init
loop-k-init c = (omega arith, refl, refl, simp (add-zero, sub-zero) c.requires.columns_there, simp (add-zero, sub-zero))

pub put_some-k-requires : goal.put_some-k-requires
put_some-k-requires c =
    let l = c.loop-k in
    let a = c.args in
    let p = c.requires.columns_bound in
    let taken = c.loop-k-test.true in
    let s : Same a.flags a.out.now l.out = same_of l.invariant.1 l.invariant.2 in record {
      columns_bound = (p.0, omega (arith, taken), omega (arith, taken, p.4, l.invariant.1));
      columns_there = columns_same {a = a.flags} s a.columns a.records (a.m.count - l.k) (a.flags + l.k) (a.values + 8 * l.k) (omega arith)
          (omega (arith, p.3)) l.invariant.3;
    }

pub loop-k-preserved : goal.loop-k-preserved
loop-k-preserved c =
    let put = c.put_some-k in
    let l = c.loop-k in
    let a = c.args in
    let p = c.requires.columns_bound in
    let r = put.result in
    let o = a.out.now in
    let low : l.k + r ≤ a.m.count = omega (arith, put.ensures.1, c.loop-k-test.true) in
    let new = put.ensures.2 in (
      low,
      put.auto.out ∙ l.invariant.1,
      ap (drop a.flags) new ∙ same_put l.out a.flags (a.at + 24 * l.k) _
          (omega (arith, low, p.2, length_in l.out a.columns a.records r (a.flags + l.k) (a.values + 8 * l.k)))
          ∙ l.invariant.2,
      rest_there o a.columns a.records a.flags a.values a.m.count l.k r low l.invariant.3,
      rest_put o a.columns a.records a.flags a.values a.m.count l.k r low a.at l.out _
          (new ∙ ap (put_at l.out (a.at + 24 * l.k)) (sym (summaries_same {a = a.flags} (same_of l.invariant.1 l.invariant.2) a.columns
          a.records r (a.flags + l.k) (a.values + 8 * l.k) (omega arith) (omega (arith, p.3))))) l.invariant.4,
    )

pub returns : goal.returns
returns c =
    let a = c.args in
    let l = c.loop-k in
    sym (put_nothing l.out (a.at + 24 * l.k))
    ∙ ap (put_at l.out (a.at + 24 * l.k)) (sym (summaries_none a.out.now a.columns (a.flags + l.k) (a.values + 8 * l.k)
    a.records a.m.count l.k c.loop-k-test.false))
    ∙ l.invariant.4

pub returns-in-Some : goal.returns-in-Some
returns-in-Some c = c.put_met.ensures

pub overflow_sub-count : goal.overflow_sub-count
overflow_sub-count c = omega (arith, small c)

pub overflow_mul-k : goal.overflow_mul-k
overflow_mul-k c = omega (arith, small c)

pub overflow_add-at : goal.overflow_add-at
overflow_add-at c = omega (arith, small c)

pub overflow_add-flags : goal.overflow_add-flags
overflow_add-flags c = omega (arith, small c)

pub overflow_mul-k-in-loop-k : goal.overflow_mul-k-in-loop-k
overflow_mul-k-in-loop-k c = omega (arith, small c)

pub overflow_add-values : goal.overflow_add-values
overflow_add-values c = omega (arith, small c)

pub overflow_add-k : goal.overflow_add-k
overflow_add-k c = omega (
  arith,
  c.put_some-k.ensures.1,
  c.loop-k-test.true,
  c.requires.columns_bound.0,
  c.requires.columns_bound.1,
)

pub loop-k-smaller : goal.loop-k-smaller
loop-k-smaller c = omega (arith, c.put_some-k.ensures.0, c.loop-k-test.true)

pub shape_of-out : goal.shape_of-out
shape_of-out c = c.loop-k.invariant.1
