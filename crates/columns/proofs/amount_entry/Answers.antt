-- `columns::amount_entry` meets its contract, case by case.
-- Assumes nothing.
use mathlib.Core.Path.{◌≡◌}
use borrow.Author.Rules.{rules}
use mir.Syntax.{w64}
use mir.Val.{to_z, of_z}
use Rattle.numbers.specs.Numeral.{said_of}
use Rattle.columns.specs.Said.{amount_entry}
use Rattle.columns.proofs.amount_entry.Goals as goal
use Rattle.columns.proofs.amount_entry.Goals.{In-Says}

-- the number said is read back from its bits as it is
back : (c : In-Says) → to_z w64 (of_z w64 c.in-Says.z) ≡ c.in-Says.z
back c = search rules

pub returns-in-Blank : goal.returns-in-Blank
unfolding amount_entry said_of
returns-in-Blank c = search rules

pub returns-in-Says : goal.returns-in-Says
unfolding amount_entry said_of
returns-in-Says c = rw (c.in-Says.is, back c)

pub returns-in-Wrong : goal.returns-in-Wrong
unfolding amount_entry said_of
returns-in-Wrong c = search rules
