use mathlib.Core.Path.{sym, ap, ◌∙◌}
use mathlib.Core.List.{[], ◌∷◌}
use Prim.Native.Nat.{ℕ, ◌-◌}
use native.Mathlib.Omega.{arith}
use Rattle.readings.specs.Many.{one_passed, byte_at}
use Rattle.fields.specs.rule.Field.{truth_field}
use Rattle.sets.specs.rule.Sets.{is_illegal}
use Rattle.readings.specs.Answer.{illegal_answer}
use Rattle.readings.proofs.Laws.{as_truth, illegal_back}
use Rattle.readings.proofs.many.truths_legal.Goals as goal
use Rattle.readings.proofs.many.truths_legal.Goals.{In-loop}

pub loop-preserved : goal.loop-preserved
loop-preserved c =
    let l = c.loop in
    let a = c.args in
    let q = c.requires.row_ready in
    let x = q.inside in let y = q.ordered in let z = q.from_one in
    let g = ap is_illegal (as_truth a.t.now a.rows a.row _ c.requires.kind_value
    ∙ ap (λ (b : ℕ). truth_field (b ∷ [])) (byte_at a.d.now l.at a.batch.size (a.row.finish - 1) (omega arith)))
    ∙ sym (illegal_back 0 0 _) ∙ ap illegal_answer (sym (c.truth.ensures 0 0))
    ∙ sym c.is_illegal.ensures ∙ c.if-is_illegal.false in
    one_passed l.invariant g
