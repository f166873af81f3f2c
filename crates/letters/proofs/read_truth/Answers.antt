-- `letters::read_truth` meets its contract: the byte by its value.
use borrow.Author.Tests.{ne_eqb}
use Rattle.fields.specs.rule.Number.{all_spaces}
use Rattle.fields.specs.rule.Field.{truth_field}
use Rattle.letters.specs.Letters.{truth_said}
use Rattle.letters.proofs.read_truth.Goals as goal

pub returns-then-b-eq32 : goal.returns-then-b-eq32
unfolding truth_said truth_field all_spaces
returns-then-b-eq32 c = rw c.if-b-eq32.true

pub returns-then-b-eq49 : goal.returns-then-b-eq49
unfolding truth_said truth_field all_spaces
returns-then-b-eq49 c = rw c.if-b-eq49.true

pub returns-then-b-eq48 : goal.returns-then-b-eq48
unfolding truth_said truth_field all_spaces
returns-then-b-eq48 c = rw c.if-b-eq48.true

pub returns : goal.returns
unfolding truth_said truth_field all_spaces
returns c = rw (ne_eqb _ _ c.if-b-eq32.false, ne_eqb _ _ c.if-b-eq49.false, ne_eqb _ _ c.if-b-eq48.false)
