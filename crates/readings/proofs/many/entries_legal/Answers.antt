use mathlib.Core.Path.{sym, ap, ◌∙◌}
use Rattle.readings.specs.Many.{one_passed}
use Rattle.sets.specs.rule.Sets.{is_illegal}
use Rattle.readings.proofs.Laws.{as_spread, spread_legal}
use Rattle.readings.proofs.many.entries_legal.Goals as goal
use Rattle.readings.proofs.many.entries_legal.Goals.{In-loop}

pub loop-preserved : goal.loop-preserved
loop-preserved c =
    let l = c.loop in
    let a = c.args in
    let g = ap is_illegal (as_spread a.t.now a.rows a.row _ a.n a.b c.requires.kind_value)
    ∙ spread_legal _ _ _ _ (sym c.spread_good.ensures ∙ c.if-not-spread_good.false) in
    one_passed l.invariant g
