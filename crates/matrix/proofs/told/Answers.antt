-- `matrix::told` meets its contract, case by case.
-- Assumes nothing.
use mathlib.Core.Path.{sym, ◌∙◌}
use Rattle.matrix.specs.Ones.{told_empty, told_zeros, told_units, told_both}
use Rattle.matrix.proofs.told.Goals as goal

pub returns-then-n-eq0 : goal.returns-then-n-eq0
returns-then-n-eq0 c = c.empty.ensures ∙ sym (told_empty c.args.n c.args.ones c.if-n-eq0.true)

pub returns-then-ones-eq0 : goal.returns-then-ones-eq0
returns-then-ones-eq0 c = sym (told_zeros c.args.n c.args.ones c.if-n-eq0.false c.if-ones-eq0.true)

pub returns-then-ones-n : goal.returns-then-ones-n
returns-then-ones-n c = sym (told_units c.args.n c.args.ones c.if-n-eq0.false
    c.if-ones-eq0.false c.if-ones-n.true)

pub returns : goal.returns
returns c = sym (told_both c.args.n c.args.ones c.if-n-eq0.false
    c.if-ones-eq0.false c.if-ones-n.false)
