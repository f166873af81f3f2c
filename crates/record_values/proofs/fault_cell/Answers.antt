-- `record_values::fault_cell` meets its contract, case by case.
use mathlib.Core.Path.{◌≡◌}
use mir.Syntax.{w64}
use mir.Val.{to_z, of_z}
use mir.Facts.{to_z-of_z}
use borrow.Author.Rules.{rules, sfits_of}
use Rattle.record_values.specs.rule.Record.{fault_cell}
use Rattle.record_values.proofs.fault_cell.Goals as goal
use Rattle.record_values.proofs.fault_cell.Goals.{In-NotLegal}

-- the number that is not legal is read back from its bits as it is
back : (c : In-NotLegal) → to_z w64 (of_z w64 c.in-NotLegal.z) ≡ c.in-NotLegal.z
back c = search rules

pub returns-in-Sound : goal.returns-in-Sound
unfolding fault_cell
returns-in-Sound c = rw c.in-Sound.is

pub returns-in-Stray : goal.returns-in-Stray
unfolding fault_cell
returns-in-Stray c = rw (c.in-Stray.is, to_z-of_z (sfits_of c.cell.type_inv), c.cell.ensures)

pub returns-in-NotLegal : goal.returns-in-NotLegal
unfolding fault_cell
returns-in-NotLegal c = rw (c.in-NotLegal.is, back c)

pub returns-in-Point : goal.returns-in-Point
unfolding fault_cell
returns-in-Point c = rw (c.in-Point.is, to_z-of_z (sfits_of c.cell-in-Point.type_inv), c.cell-in-Point.ensures)
