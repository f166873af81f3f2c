use mathlib.Core.Path.{sym, ap, ◌∙◌}
use Rattle.readings.specs.Many.{one_passed}
use Rattle.fields.specs.rule.Legal.{legal}
use Rattle.sets.specs.rule.Sets.{is_illegal}
use Rattle.readings.proofs.Laws.{as_bits}
use Rattle.readings.proofs.many.bits_legal.Goals as goal
use Rattle.readings.proofs.many.bits_legal.Goals.{In-loop}

pub loop-preserved : goal.loop-preserved
loop-preserved c =
    let l = c.loop in
    let a = c.args in
    let g = ap is_illegal (as_bits a.t.now a.rows a.row _ c.requires.kind_value)
    ∙ sym (c.position_alike.ensures c.if-not-position_alike.false (legal a.t.now a.rows a.row)) in
    one_passed l.invariant g
