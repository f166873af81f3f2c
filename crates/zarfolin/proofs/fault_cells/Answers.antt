-- `zarfolin::fault_cells` meets its contract, case by case.
use borrow.Author.Rules.{sfits_of}
use mir.Facts.{to_z-of_z}
use Rattle.zarfolin.specs.rule.Face.{fault_cells}
use Rattle.records.specs.rule.Verdict.{judged_as, verdict_number}
use Rattle.zarfolin.proofs.fault_cells.Goals as goal

-- a field's fault: its row, and its place or number
pub returns-in-Faulty : goal.returns-in-Faulty
unfolding fault_cells judged_as verdict_number
returns-in-Faulty c =
    rw (
      c.in-Faulty.is,
      to_z-of_z (sfits_of c.cell-first.type_inv),
      to_z-of_z (sfits_of c.cell-in-Faulty.type_inv),
      to_z-of_z (sfits_of c.fault_cell.type_inv),
    ) (rw (
      c.cell-first.ensures,
      c.cell-in-Faulty.ensures,
      c.fault_cell.ensures,
      c.fault_number.ensures,
    ))

pub returns-in-Sound : goal.returns-in-Sound
unfolding fault_cells judged_as verdict_number
returns-in-Sound c = rw (
  c.in-Sound.is,
  c.with_one.ensures,
  to_z-of_z (sfits_of c.cell-first.type_inv),
  c.cell-first.ensures,
)

pub returns-in-BadTable : goal.returns-in-BadTable
unfolding fault_cells judged_as verdict_number
returns-in-BadTable c = rw (
  c.in-BadTable.is,
  c.with_one-in-BadTable.ensures,
  to_z-of_z (sfits_of c.cell-first.type_inv),
  c.cell-first.ensures,
)

pub returns-in-ShortRecord : goal.returns-in-ShortRecord
unfolding fault_cells judged_as verdict_number
returns-in-ShortRecord c = rw (
  c.in-ShortRecord.is,
  c.with_one-in-ShortRecord.ensures,
  to_z-of_z (sfits_of c.cell-first.type_inv),
  c.cell-first.ensures,
)

pub returns-in-LowByte : goal.returns-in-LowByte
unfolding fault_cells judged_as verdict_number
returns-in-LowByte c = rw (
  c.in-LowByte.is,
  to_z-of_z (sfits_of c.cell-first.type_inv),
  to_z-of_z (sfits_of c.cell.type_inv),
  c.cell-first.ensures,
  c.cell.ensures,
)
