use mathlib.Core.Path.{◌≡◌, sym, ap, ◌∙◌}
use mathlib.Core.Bool.{not}
use native.Mathlib.Omega.{arith}
use mir.Facts.{to_z-of_z}
use borrow.Author.Rules.{sfits_of}
use Rattle.below.specs.Below.{all_none, all_more, all_fails}
use Rattle.cells.specs.rule.Cell.{eq_z}
use Rattle.strides.specs.rule.Stride.{stride_at, unlike, number_new}
use Rattle.strides.proofs.number_new.Goals as goal
use Rattle.strides.proofs.number_new.Goals.{After-same}

-- what `same` answers of the values k and j
here : (c : After-same) → c.same.result
    ≡ eq_z (stride_at c.args.t.now c.args.at
    c.args.step c.args.k)
    (stride_at c.args.t.now c.args.at
    c.args.step c.loop-j.j)
here c =
    c.same.ensures
    ∙ rw (
      to_z-of_z (sfits_of c.number_at-x.type_inv),
      c.number_at-x.ensures,
      to_z-of_z (sfits_of c.number_at.type_inv),
      c.number_at.ensures,
    )

pub loop-j-init : goal.loop-j-init
loop-j-init c = all_none _

pub returns-then-same : goal.returns-then-same
unfolding number_new
returns-then-same c =
    let args = c.args in
    sym (all_fails (unlike (stride_at args.t.now args.at args.step) args.k) _ c.loop-j.j (omega arith)
    (ap not (sym (here c.before) ∙ c.if-same.true)))

pub loop-j-preserved : goal.loop-j-preserved
loop-j-preserved c = all_more _ _ c.loop-j.invariant (ap not (sym (here c.before) ∙ c.if-same.false))

pub returns : goal.returns
unfolding number_new
returns c =
    let e : c.loop-j.j ≡ c.args.k = omega arith in
    sym (rw e at c.loop-j.invariant)
