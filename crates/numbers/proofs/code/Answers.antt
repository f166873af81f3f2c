-- `numbers::code` meets its contract: what follows the spaces is nothing, digits, or wrong.
use mathlib.Core.Path.{◌≡◌, sym, ap, ◌∙◌}
use native.Mathlib.Omega.{arith}
use borrow.Author.Rules.{sfits_of}
use lib.ListN.{drop, length-drop}
use mir.Facts.{to_z-of_z}
use Rattle.cells.specs.rule.Cell.{number_of}
use Rattle.fields.specs.rule.Number.{says}
use Rattle.numbers.specs.Numeral.{said_of, digits_read}
use Rattle.numbers.proofs.Laws.{rest_is, few_rest, value_small, code_none, code_says, code_wrong}
use mir.Syntax.{w64}
use Rattle.numbers.proofs.code.Goals as goal
use Rattle.numbers.proofs.code.Goals.{After-digits_after}

-- what the digits after the spaces were read as
read : (c : After-digits_after) → c.digits_after.result
    ≡ digits_read 0 (drop c.leading_spaces-p.result c.args.s.now)
read c = c.digits_after.ensures ∙ ap (digits_read 0) (rest_is _ _ c.leading_spaces-p.ensures.0)

pub returns-then-s-p : goal.returns-then-s-p
unfolding said_of
returns-then-s-p c = sym (code_none _ _ c.leading_spaces-p.ensures.1 c.if-s-p.true)

pub digits_after-requires : goal.digits_after-requires
digits_after-requires c = few_rest c.args.s.now c.leading_spaces-p.result
    c.leading_spaces-p.ensures.0 c.requires

pub signed-requires : goal.signed-requires
signed-requires c =
    let s = c.args.s.now in
    value_small (drop c.leading_spaces-p.result s) _ (simp length-drop (omega arith))
    (sym (read (goal.at.signed-requires c).After-digits_after) ∙ c.in-Some.is)

pub returns-in-Some : goal.returns-in-Some
unfolding said_of number_of
returns-in-Some c =
    ap says (to_z-of_z {w = w64} (sfits_of c.signed.type_inv) ∙ c.signed.ensures)
    ∙ sym (code_says _ _ c.leading_spaces-p.ensures.1 _
    c.if-s-p.false (sym (read (goal.at.returns-in-Some c).After-digits_after) ∙ c.in-Some.is))

pub returns-in-None : goal.returns-in-None
unfolding said_of
returns-in-None c = sym (code_wrong _ _ c.leading_spaces-p.ensures.1
    c.if-s-p.false (sym (read (goal.at.returns-in-None c).After-digits_after) ∙ c.in-None.is))
