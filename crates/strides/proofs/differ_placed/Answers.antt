use mathlib.Core.Path.{◌≡◌, sym, ap, ◌∙◌}
use Prim.Native.Nat.{◌<◌}
use native.Mathlib.Omega.{arith}
use mir.Facts.{to_z-of_z}
use borrow.Author.Rules.{sfits_of}
use lib.ListN.{length}
use Rattle.below.specs.Below.{all_none, all_more, all_fails}
use Rattle.cells.specs.rule.Cell.{count_of}
use Rattle.strides.specs.rule.Stride.{stride_at, all_differ}
use Rattle.strides.specs.Stride.{new_unmarked, left_more}
use mir.Syntax.{w64}
use Rattle.strides.proofs.differ_placed.Goals as goal
use Rattle.strides.proofs.differ_placed.Goals.{After-count_of-own}

-- the place of number k's mark, which the marks have
place_here : (c : After-count_of-own) → c.count_of-own.result
    ≡ count_of ((stride_at c.args.t.now c.args.at
    c.args.step) c.loop-k.k)
place_here c = c.count_of-own.ensures ∙ ap count_of (to_z-of_z {w = w64} (sfits_of c.number_at.type_inv) ∙ c.number_at.ensures)

inside_here : (c : After-count_of-own) → c.count_of-own.result < length c.loop-k.marks
inside_here c = omega (arith, c.loop-k.auto.marks, place_here c, c.requires.1 c.loop-k.k c.loop-k-test.true)

pub loop-k-init : goal.loop-k-init
loop-k-init c = (record { left = λ j h. absurd (omega arith) }, all_none _)

pub new_by_mark-requires : goal.new_by_mark-requires
new_by_mark-requires c = record {
  strided = (c.requires.0, c.loop-k-test.true);
  k_value = λ e. new_unmarked count_of (stride_at c.args.t.now c.args.at c.args.step) _ _ _
      c.loop-k.invariant.0 (place_here c.before.before) e;
}

pub shape_of-marks-then-not-new_by_mark : goal.shape_of-marks-then-not-new_by_mark
shape_of-marks-then-not-new_by_mark c = c.loop-k.auto.marks

pub returns-then-not-new_by_mark : goal.returns-then-not-new_by_mark
unfolding all_differ
returns-then-not-new_by_mark c = sym (all_fails _ _ c.loop-k.k (omega arith)
    (sym c.new_by_mark.ensures ∙ c.if-not-new_by_mark.true))

pub loop-k-preserved : goal.loop-k-preserved
loop-k-preserved c =
    let at-count-of = c.before.before.before in (
      left_more count_of (stride_at at-count-of.args.t.now at-count-of.args.at at-count-of.args.step)
          at-count-of.loop-k.k at-count-of.count_of-own.result at-count-of.loop-k.marks (inside_here at-count-of)
          (place_here at-count-of) at-count-of.loop-k.invariant.0,
      all_more _ _ at-count-of.loop-k.invariant.1 (sym c.new_by_mark.ensures ∙ c.if-not-new_by_mark.false),
    )

pub shape_of-marks : goal.shape_of-marks
shape_of-marks c = c.loop-k.auto.marks

pub returns : goal.returns
unfolding all_differ
returns c =
    let e : c.loop-k.k ≡ c.args.n = omega arith in
    sym (rw e at c.loop-k.invariant.1)

pub bounds-marks-own : goal.bounds-marks-own
bounds-marks-own c = inside_here c.before.before

pub bounds-marks-own-in-loop-k : goal.bounds-marks-own-in-loop-k
bounds-marks-own-in-loop-k c = inside_here c.before.before.before
