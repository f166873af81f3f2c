use mathlib.Core.Path.{◌≡◌, sym, ◌∙◌}
use Rattle.below.specs.Below.{all_none, all_more, all_fails}
use Rattle.sound.specs.rule.Sound.{plain_at, lines_plain}
use native.Mathlib.Omega.{arith}
use Rattle.sound.proofs.lines_plain.Goals as goal
use Rattle.sound.proofs.lines_plain.Goals.{After-line_plain}

-- what is answered of line k
plain_here : (c : After-line_plain) → c.line_plain.result
    ≡ plain_at c.args.t.now c.args.v
    c.args.b c.loop-k.k
plain_here c = c.line_plain.ensures ∙ rw (c.read.ensures, c.base.ensures)

pub loop-k-init : goal.loop-k-init
loop-k-init c = all_none _

pub returns-then-low : goal.returns-then-low
returns-then-low c = sym (c.requires.n_value c.if-low.true)

pub returns-then-not-line_plain : goal.returns-then-not-line_plain
unfolding lines_plain
returns-then-not-line_plain c = sym (all_fails _ _ c.loop-k.k (omega arith)
    (sym (plain_here (goal.at.returns-then-not-line_plain c).After-line_plain) ∙ c.if-not-line_plain.true))

pub loop-k-preserved : goal.loop-k-preserved
loop-k-preserved c = all_more _ _ c.loop-k.invariant
    (sym (plain_here (goal.at.loop-k-preserved c).After-line_plain) ∙ c.if-not-line_plain.false)

pub returns : goal.returns
unfolding lines_plain
returns c =
    let e : c.loop-k.k ≡ c.args.n = omega arith in
    sym (rw e at c.loop-k.invariant)
