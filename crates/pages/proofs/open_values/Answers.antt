use mathlib.Core.Path.{sym}
use native.Mathlib.Omega.{arith}
use Rattle.looks.specs.Stand.{stands_end}
use Rattle.steps.specs.Step.{statement_past}
use Rattle.pages.specs.Stand.{values_past}
use Rattle.pages.proofs.open_values.Goals as goal

pub overflow_sub-result : goal.overflow_sub-result
overflow_sub-result c = let x = c.stands_to-e.ensures c.if-e-gt0.true in omega (arith, stands_end x)

pub returns-then-e-gt0 : goal.returns-then-e-gt0
returns-then-e-gt0 c = sym (values_past _ _ c.pass_blanks-k.ensures.0 (c.stands_to-e.ensures c.if-e-gt0.true))

pub returns : goal.returns
unfolding statement_past
returns c = rw (c.past_word.ensures, c.past_notes-g.ensures)
