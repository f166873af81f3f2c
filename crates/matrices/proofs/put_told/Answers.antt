use mathlib.Core.Path.{refl, sym, ap, ◌∙◌}
use mathlib.Core.List.{List, ◌++◌}
use Prim.Native.Nat.{ℕ, ◌+◌, ◌-◌, ◌*◌}
use native.Mathlib.Nat.{add-zero, sub-zero}
use native.Mathlib.Omega.{arith}
use Rattle.little.specs.rule.Bytes.{put_at}
use Rattle.little.specs.Runs.{put_next}
use Rattle.summary.specs.declared.Summary.{Summary}
use Rattle.matrix.specs.rule.Bytes.{summary_bytes}
use Rattle.matrix.specs.Bytes.{length_summary}
use Rattle.matrices.specs.Summaries.{told_from, told_next, told_over, told_plain, put_nothing}
use Rattle.matrices.proofs.put_told.Goals as goal

pub loop-j-init : goal.loop-j-init
loop-j-init c = (refl, simp (add-zero, sub-zero))

pub overflow_add-at : goal.overflow_add-at
overflow_add-at c = omega (arith, c.loop-j-test.true, c.requires)

pub put_summary-requires : goal.put_summary-requires
put_summary-requires c =
    let l = c.loop-j in record {
      at_in_bounds = omega (arith, c.loop-j-test.true, c.requires, l.invariant.0);
      t = rw c.told.ensures (told_plain _ _);
    }

pub loop-j-preserved : goal.loop-j-preserved
loop-j-preserved c =
    let put = c.put_summary in
    let told = c.told in
    let l = c.loop-j in
    let a = c.args in
    let s = told.result in
    let rest = told_from a.n a.ones.now (l.j + 1) (16 - (l.j + 1)) in (
      put.auto.out ∙ l.invariant.0,
      ap (λ (x : List ℕ). put_at x (a.at + 24 * (l.j + 1)) rest) put.ensures
          ∙ put_next l.out (a.at + 24 * l.j) (summary_bytes s) (a.at + 24 * (l.j + 1)) rest (omega (arith, length_summary s))
          ∙ ap (λ (x : Summary). put_at l.out (a.at + 24 * l.j) (summary_bytes x ++ rest)) told.ensures
          ∙ ap (put_at l.out (a.at + 24 * l.j)) (sym (told_next a.n a.ones.now l.j c.loop-j-test.true))
          ∙ l.invariant.1,
    )

pub shape_of-out : goal.shape_of-out
shape_of-out c = c.loop-j.invariant.0

pub returns : goal.returns
returns c =
    let a = c.args in
    let l = c.loop-j in
    sym (put_nothing l.out (a.at + 24 * l.j))
    ∙ ap (put_at l.out (a.at + 24 * l.j)) (sym (told_over a.n a.ones.now l.j c.loop-j-test.false))
    ∙ l.invariant.1
