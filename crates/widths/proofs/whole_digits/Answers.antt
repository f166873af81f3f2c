use mathlib.Core.Path.{◌∙◌}
use borrow.Author.Tests.{eq-eqb, ne_eqb}
use Rattle.widths.proofs.whole_digits.Goals as goal

pub returns-then-whole-eq0 : goal.returns-then-whole-eq0
returns-then-whole-eq0 c = c.least_whole.ensures ∙ rw (eq-eqb _ _ c.if-whole-eq0.true)

pub returns : goal.returns
returns c = c.digit_count.ensures ∙ rw (ne_eqb _ _ c.if-whole-eq0.false)
