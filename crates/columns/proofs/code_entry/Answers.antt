-- `columns::code_entry` meets its contract, case by case.
-- Assumes nothing.
use mathlib.Core.Path.{◌≡◌, ap, ◌∙◌}
use borrow.Author.Rules.{rules}
use lib.IntN.{ℤ, pos}
use mir.Syntax.{w64}
use mir.Val.{to_z, of_z}
use Rattle.cells.specs.rule.Cell.{eq_z}
use Rattle.numbers.specs.Numeral.{said_of}
use Rattle.columns.specs.Said.{single_entry}
use Rattle.columns.proofs.code_entry.Goals as goal
use Rattle.columns.proofs.code_entry.Goals.{After-same, In-Says}

-- the number said is read back from its bits as it is
back : (c : In-Says) → to_z w64 (of_z w64 c.in-Says.z) ≡ c.in-Says.z
back c = search rules

zero_test : (c : After-same) → c.same.result ≡ eq_z c.in-Says.z (pos 0)
zero_test c = c.same.ensures ∙ ap (λ (z : ℤ). eq_z z (pos 0)) (back (goal.at.After-same c).In-Says)

pub returns-then-same : goal.returns-then-same
unfolding single_entry said_of
returns-then-same c = rw (c.in-Says.is, rw (zero_test (goal.at.returns-then-same c).After-same) at c.if-same.true)

pub returns-in-Blank : goal.returns-in-Blank
unfolding single_entry said_of
returns-in-Blank c = rw c.in-Blank.is

pub returns-else-same : goal.returns-else-same
unfolding single_entry said_of
returns-else-same c = rw (
  c.in-Says.is,
  back (goal.at.returns-else-same c).In-Says,
  rw (zero_test (goal.at.returns-else-same c).After-same) at c.if-same.false,
)

pub returns-in-Wrong : goal.returns-in-Wrong
unfolding single_entry said_of
returns-in-Wrong c = rw c.in-Wrong.is
