use mathlib.Core.Path.{sym, ap, ◌∙◌}
use Rattle.readings.specs.Many.{one_passed}
use Rattle.sets.specs.rule.Sets.{is_illegal}
use Rattle.readings.specs.Answer.{illegal_answer}
use Rattle.readings.proofs.Laws.{as_single, illegal_back}
use Rattle.readings.proofs.many.singles_legal.Goals as goal
use Rattle.readings.proofs.many.singles_legal.Goals.{In-loop}

pub loop-preserved : goal.loop-preserved
loop-preserved c =
    let l = c.loop in
    let a = c.args in
    let g = ap is_illegal (as_single a.t.now a.rows a.row _ c.requires.kind_value) ∙ sym (illegal_back 0 0 _)
    ∙ ap illegal_answer (sym (c.single.ensures 0 0)) ∙ sym c.is_illegal.ensures ∙ c.if-is_illegal.false in
    one_passed l.invariant g
