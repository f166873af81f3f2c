-- `readings::number_answer` meets its contract: by the test.
use mathlib.Core.Path.{◌≡◌, sym, ap, ◌∙◌}
use mir.Facts.{to_z-of_z}
use Rattle.fields.specs.rule.Legal.{legal}
use Rattle.readings.specs.declared.Answer.TheVariants.{Number}
use Rattle.readings.proofs.Laws.{number_said, number_not}
use mir.Syntax.{w64}
use Rattle.readings.proofs.number_answer.Goals as goal
use Rattle.readings.proofs.number_answer.Goals.{After-is_legal}

-- the test, of the number itself
test : (c : After-is_legal) → c.is_legal.result
    ≡ legal c.args.t.now c.args.rows c.args.row c.args.z
test c = c.is_legal.ensures ∙ ap (legal c.args.t.now c.args.rows c.args.row)
    (to_z-of_z c.ranges.z)

pub returns-then-is_legal : goal.returns-then-is_legal
returns-then-is_legal c p n = ap Number (to_z-of_z {w = w64} c.ranges.z)
    ∙ number_said (legal c.args.t.now c.args.rows c.args.row)
    c.args.z p n (sym (test (goal.at.returns-then-is_legal c).After-is_legal) ∙ c.if-is_legal.true)

pub returns : goal.returns
returns c p n = number_not (legal c.args.t.now c.args.rows c.args.row)
    c.args.z p n (sym (test (goal.at.returns c).After-is_legal) ∙ c.if-is_legal.false)
