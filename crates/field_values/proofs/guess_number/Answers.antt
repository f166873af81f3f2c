-- `field_values::guess_number` meets its contract.
use mathlib.Core.Path.{ap, ◌∙◌}
use borrow.Author.Rules.{sfits_of}
use mir.Facts.{to_z-of_z}
use Rattle.cells.specs.rule.Cell.{number_of}
use Rattle.field_values.specs.rule.Read.{size_guess}
use mathlib.Core.Bool.{true, false}
use Rattle.field_values.specs.Steps.{number_none, number_down, number_up, rest_is}
use mir.Syntax.{w64}
use Rattle.field_values.proofs.guess_number.Goals as goal

pub returns-then-f-eq0 : goal.returns-then-f-eq0
returns-then-f-eq0 c = number_none c.args.k c.args.f.now c.if-f-eq0.true

pub number_of-requires : goal.number_of-requires
number_of-requires c = c.guess_size.ensures.1

pub returns-then-f-eq45 : goal.returns-then-f-eq45
returns-then-f-eq45 c =
    let args = c.args in
    to_z-of_z {w = w64} (sfits_of c.number_of.type_inv) ∙ c.number_of.ensures ∙ ap (number_of true) (c.guess_size.ensures.0
    ∙ ap (size_guess args.k) (rest_is args.f.now 1)) ∙ number_down args.k args.f.now c.if-f-eq0.false
    c.if-f-eq45.true

pub number_of-requires-2 : goal.number_of-requires-2
number_of-requires-2 c = c.guess_size-2.ensures.1

pub returns : goal.returns
returns c =
    let args = c.args in
    to_z-of_z {w = w64} (sfits_of c.number_of-2.type_inv) ∙ c.number_of-2.ensures ∙ ap (number_of false) c.guess_size-2.ensures.0
    ∙ number_up args.k args.f.now c.if-f-eq0.false c.if-f-eq45.false
