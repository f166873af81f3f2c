use mathlib.Core.Path.{◌≡◌, sym, ◌∙◌}
use native.Mathlib.Omega.{arith}
use Rattle.below.specs.Below.{and_no, and_yes, all_none, all_more, all_fails, sum_none, sum_more}
use Rattle.layout.specs.rule.Layout.{row_base, columns_at}
use Rattle.uses.specs.rule.Uses.{use_good, is_use, uses_good}
use Rattle.uses.specs.Uses.{use_one}
use Rattle.uses.proofs.uses_good.Goals as goal
use Rattle.uses.proofs.uses_good.Goals.{After-is_use-serials, After-is_use-weights, After-read-c, After-use_good}

-- the columns read are those of row i, and what is answered is whether its use and filter are good
columns_here : (c : After-read-c) → c.read-c.result
    ≡ columns_at c.args.t.now (row_base c.loop-i.i)
columns_here c = c.read-c.ensures ∙ rw c.base.ensures

good_here : (c : After-use_good) → c.use_good.result
    ≡ use_good c.args.t.now c.loop-i.i
    (columns_at c.args.t.now (row_base c.loop-i.i))
good_here c = c.use_good.ensures ∙ rw (columns_here c.before)

serial_here : (c : After-is_use-serials) → c.is_use-serials.result
    ≡ is_use (columns_at c.args.t.now
    (row_base c.loop-i.i)).usage 1
serial_here c = c.is_use-serials.ensures ∙ rw (columns_here c.before.before.before)

weight_here : (c : After-is_use-weights) → c.is_use-weights.result
    ≡ is_use (columns_at c.args.t.now
    (row_base c.loop-i.i)).usage 2
weight_here c = c.is_use-weights.ensures ∙ rw (columns_here c.before.before.before.before)

pub loop-i-init : goal.loop-i-init
loop-i-init c = (omega arith, omega arith, sym (sum_none _), sym (sum_none _), all_none _)

pub read-c-requires : goal.read-c-requires
read-c-requires c = rw c.base.ensures (omega arith)

pub returns-then-not-use_good : goal.returns-then-not-use_good
unfolding uses_good
returns-then-not-use_good c = sym (and_no _ _ (all_fails _ _ c.loop-i.i (omega arith)
    (sym (good_here c.before) ∙ c.if-not-use_good.true)))

pub overflow_add-serials : goal.overflow_add-serials
overflow_add-serials c = omega (arith, c.is_use-serials.ensures, use_one c.read-c.result.usage 1)

pub overflow_add-weights : goal.overflow_add-weights
overflow_add-weights c = omega (arith, c.is_use-weights.ensures, use_one c.read-c.result.usage 2)

pub loop-i-preserved : goal.loop-i-preserved
loop-i-preserved c =
    let inv = c.loop-i.invariant in (
      omega (arith, c.is_use-serials.ensures, use_one c.read-c.result.usage 1),
      omega (arith, c.is_use-weights.ensures, use_one c.read-c.result.usage 2),
      rw (inv.2, serial_here c.before) (sym (sum_more _ c.loop-i.i)),
      rw (inv.3, weight_here c) (sym (sum_more _ c.loop-i.i)),
      all_more _ _ inv.4 (sym (good_here c.before.before.before) ∙ c.if-not-use_good.false),
    )

pub returns : goal.returns
unfolding uses_good
returns c =
    let l = c.loop-i in
    let e : l.i ≡ c.args.v = omega arith in
    sym (and_yes _ _ (rw e at l.invariant.4) ∙ rw (l.invariant.2, l.invariant.3, e))
