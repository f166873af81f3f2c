-- `corrections::admit` meets its contract: the tests in their order.
use mathlib.Core.Path.{sym, ◌∙◌}
use Rattle.corrections.specs.Correction.{not_formed, too_short, long_enough}
use Rattle.corrections.proofs.admit.Goals as goal

pub returns-then-not-well_formed : goal.returns-then-not-well_formed
returns-then-not-well_formed c = not_formed _ _ (sym c.well_formed-2.ensures.says ∙ c.if-not-well_formed.true)

pub returns-then-n-h : goal.returns-then-n-h
returns-then-n-h c =
    too_short _ _ (sym c.well_formed-2.ensures.says ∙ c.if-not-well_formed.false)
    _ c.read-h.ensures c.if-n-h.true

pub returns : goal.returns
returns c =
    long_enough _ _ (sym c.well_formed-2.ensures.says
    ∙ c.if-not-well_formed.false) _ c.read-h.ensures c.if-n-h.false
