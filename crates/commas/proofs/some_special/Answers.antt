use mathlib.Core.Path.{sym, ◌∙◌}
use Rattle.commas.specs.Csv.{next_special, over_special}
use Rattle.commas.proofs.some_special.Goals as goal

pub returns-then-special : goal.returns-then-special
returns-then-special c = sym (c.loop-i.invariant ∙ next_special _ _ c.loop-i-test.true
    ∙ rw (sym c.special.ensures, c.if-special.true))

pub loop-i-preserved : goal.loop-i-preserved
loop-i-preserved c = c.loop-i.invariant ∙ next_special _ _ c.loop-i-test.true
    ∙ rw (sym c.special.ensures, c.if-special.false)

pub returns : goal.returns
returns c = sym (c.loop-i.invariant ∙ over_special _ _ c.loop-i-test.false)
