-- `zarfolin::normal_cells` meets its contract, case by case.
use mathlib.Core.Path.{sym}
use Rattle.records.specs.rule.Verdict.{verdict_number}
use Rattle.normal.specs.rule.Normal.{normal_said}
use Rattle.zarfolin.specs.rule.Face.{verdict_cells}
use Rattle.zarfolin.proofs.normal_cells.Goals as goal

pub returns-in-Shared : goal.returns-in-Shared
unfolding normal_said verdict_cells verdict_number
returns-in-Shared c = rw (c.in-Shared.is, sym c.bare.ensures)

pub returns-in-As : goal.returns-in-As
unfolding normal_said
returns-in-As c = rw (c.in-As.is, sym c.verdict_cells.ensures)
