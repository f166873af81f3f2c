-- `zarfolin::verdict_cells` meets its contract, case by case.
use mathlib.Core.Path.{sym}
use borrow.Author.Rules.{sfits_of}
use mir.Facts.{to_z-of_z}
use Rattle.zarfolin.specs.rule.Face.{verdict_cells}
use Rattle.records.specs.rule.Verdict.{judged_as, verdict_number}
use Rattle.zarfolin.proofs.verdict_cells.Goals as goal

pub returns-in-Sound : goal.returns-in-Sound
unfolding verdict_cells judged_as verdict_number
returns-in-Sound c = rw (c.in-Sound.is, sym c.bare.ensures)

pub returns-in-BadTable : goal.returns-in-BadTable
unfolding verdict_cells judged_as verdict_number
returns-in-BadTable c = rw (c.in-BadTable.is, sym c.bare-in-BadTable.ensures)

pub returns-in-ShortRecord : goal.returns-in-ShortRecord
unfolding verdict_cells judged_as verdict_number
returns-in-ShortRecord c = rw (c.in-ShortRecord.is, sym c.bare-in-ShortRecord.ensures)

pub returns-in-LowByte : goal.returns-in-LowByte
unfolding verdict_cells judged_as verdict_number
returns-in-LowByte c = rw (
  c.in-LowByte.is,
  c.with_one.ensures,
  to_z-of_z (sfits_of c.cell.type_inv),
  c.cell.ensures,
)

pub returns-in-Faulty : goal.returns-in-Faulty
unfolding verdict_cells judged_as verdict_number
returns-in-Faulty c = rw (c.in-Faulty.is, sym c.row_cells.ensures)
