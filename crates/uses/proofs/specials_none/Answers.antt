use mathlib.Core.Path.{◌≡◌, sym, ◌∙◌}
use native.Mathlib.Omega.{arith}
use borrow.Author.Tests.{eq-eqb, ne_eqb}
use Rattle.below.specs.Below.{all_none, all_more, all_fails}
use Rattle.layout.specs.rule.Layout.{line_base, line_at}
use Rattle.uses.specs.rule.Uses.{specials_none}
use Rattle.uses.proofs.specials_none.Goals as goal
use Rattle.uses.proofs.specials_none.Goals.{After-read}

line_here : (c : After-read) → c.read.result
    ≡ line_at c.args.t.now
    (line_base c.args.v c.loop-j.j)
line_here c = c.read.ensures ∙ rw c.base.ensures

pub loop-j-init : goal.loop-j-init
loop-j-init c = all_none _

pub read-requires : goal.read-requires
read-requires c = rw c.base.ensures (omega arith)

pub returns-then-read-ne0 : goal.returns-then-read-ne0
unfolding specials_none
returns-then-read-ne0 c = sym (all_fails _ _ c.loop-j.j (omega arith)
    (rw (← line_here c.before.before) (ne_eqb _ 0 c.if-read-ne0.true)))

pub loop-j-preserved : goal.loop-j-preserved
loop-j-preserved c = all_more _ _ c.loop-j.invariant (rw (← line_here c.before.before) (eq-eqb _ 0 c.if-read-ne0.false))

pub returns : goal.returns
unfolding specials_none
returns c =
    let e : c.loop-j.j ≡ c.args.e = omega arith in
    sym (rw e at c.loop-j.invariant)
