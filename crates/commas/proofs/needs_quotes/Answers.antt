use mathlib.Core.Path.{sym, ◌∙◌}
use native.Mathlib.Omega.{arith}
use Rattle.commas.proofs.needs_quotes.Goals as goal

pub returns-then-eight_special : goal.returns-then-eight_special
returns-then-eight_special c = let l = c.loop-i in sym (l.invariant.1 ∙ c.eight_special.ensures ∙ rw c.if-eight_special.true)

pub loop-i-preserved : goal.loop-i-preserved
loop-i-preserved c = let l = c.loop-i in
    (omega arith, l.invariant.1 ∙ c.eight_special.ensures ∙ rw c.if-eight_special.false)

pub returns : goal.returns
returns c = c.some_special.ensures ∙ sym c.loop-i.invariant.1
