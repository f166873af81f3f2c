use mathlib.Core.Path.{sym, ap, ◌∙◌}
use Rattle.readings.specs.Many.{one_passed}
use Rattle.sets.specs.rule.Sets.{is_illegal}
use Rattle.readings.proofs.Laws.{as_quantity}
use Rattle.readings.proofs.many.quantities_legal.Goals as goal
use Rattle.readings.proofs.many.quantities_legal.Goals.{In-loop}

pub loop-preserved : goal.loop-preserved
loop-preserved c =
    let l = c.loop in
    let a = c.args in
    let g = ap is_illegal (as_quantity a.t.now a.rows a.row _ a.f c.requires.kind_value)
    ∙ sym c.quantity_illegal.ensures ∙ c.if-quantity_illegal.false in
    one_passed l.invariant g
