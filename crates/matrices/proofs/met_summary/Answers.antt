-- `matrices::met_summary` meets its contract: no one, both, or ones alone.
-- Assumes nothing.
use mathlib.Core.Path.{sym, ◌∙◌}
use Rattle.matrix.specs.Told.{told_unmet, told_mixed, told_full}
use Rattle.matrices.proofs.met_summary.Goals as goal

pub returns-then-mark-eq0 : goal.returns-then-mark-eq0
returns-then-mark-eq0 c =
    let m = c.requires.met_column in
    c.told.ensures ∙ told_unmet _ m.bits m.long m.marked c.if-mark-eq0.true

pub returns-then-has_less : goal.returns-then-has_less
returns-then-has_less c =
    let m = c.requires.met_column in
    let less = c.has_less in
    c.told-then-has_less.ensures ∙ told_mixed _ m.bits m.long m.marked c.if-mark-eq0.false
    (sym less.ensures ∙ c.if-has_less.true)

pub returns : goal.returns
returns c =
    let m = c.requires.met_column in
    let less = c.has_less in
    c.told-2.ensures ∙ told_full _ m.bits m.long m.marked (sym less.ensures ∙ c.if-has_less.false)
