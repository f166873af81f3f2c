-- `readings::numeral_answer` meets its contract: by what the bytes say.
use mathlib.Core.Path.{◌≡◌, ap, ◌∙◌}
use borrow.Author.Rules.{rules}
use lib.IntN.{ℤ, pos}
use mir.Syntax.{w64}
use mir.Val.{to_z, of_z}
use Rattle.cells.specs.rule.Cell.{eq_z}
use Rattle.fields.specs.rule.Legal.{legal}
use Rattle.fields.specs.rule.Field.{number_field}
use Rattle.numbers.specs.Numeral.{said_of}
use Rattle.readings.specs.Answer.{answer_of}
use Rattle.readings.proofs.Laws.{numeral_missing, numeral_wrong, numeral_zero, numeral_number}
use Rattle.readings.proofs.numeral_answer.Goals as goal
use Rattle.readings.proofs.numeral_answer.Goals.{After-same, In-Says}

-- the number said is read back from its bits as it is
back : (c : In-Says) → to_z w64 (of_z w64 c.in-Says.z) ≡ c.in-Says.z
back c = search rules

zero_test : (c : After-same) → c.same.result ≡ eq_z c.in-Says.z (pos 0)
zero_test c = c.same.ensures ∙ ap (λ (z : ℤ). eq_z z (pos 0)) (back (goal.at.After-same c).In-Says)

pub returns-then-zero_is_missing-same : goal.returns-then-zero_is_missing-same
unfolding said_of
returns-then-zero_is_missing-same c p n = rw c.in-Says.is
    (numeral_zero _ _ p n _ (rw (zero_test (goal.at.returns-then-zero_is_missing-same c).After-same) at c.if-zero_is_missing-same.true))

pub returns-in-Blank : goal.returns-in-Blank
unfolding said_of
returns-in-Blank c p n = rw c.in-Blank.is (numeral_missing _ _ p n)

pub returns-else-zero_is_missing-same : goal.returns-else-zero_is_missing-same
unfolding said_of
returns-else-zero_is_missing-same c p n =
    let a = c.args in
    rw c.in-Says.is
    (c.number_answer.ensures p n ∙ ap (λ (z : ℤ). answer_of p n (number_field (legal a.t.now a.rows a.row) z))
    (back (goal.at.returns-else-zero_is_missing-same c).In-Says)
    ∙ numeral_number _ _ p n _ (rw (zero_test (goal.at.returns-else-zero_is_missing-same c).After-same) at c.if-zero_is_missing-same.false))

pub returns-in-Wrong : goal.returns-in-Wrong
unfolding said_of
returns-in-Wrong c p n = rw c.in-Wrong.is (numeral_wrong _ _ p n)

pub number_answer-requires : goal.number_answer-requires
number_answer-requires c = c.requires
