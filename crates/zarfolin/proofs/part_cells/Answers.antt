-- `zarfolin::part_cells` meets its contract, case by case.
use mathlib.Core.Path.{sym}
use Rattle.zarfolin.specs.rule.Part.{part_cells}
use Rattle.parts.specs.rule.Part.{part_said}
use Rattle.zarfolin.proofs.part_cells.Goals as goal

pub returns-in-NoTerminator : goal.returns-in-NoTerminator
unfolding part_cells part_said
returns-in-NoTerminator c = rw (c.in-NoTerminator.is, sym c.bare.ensures)

pub returns-in-Judged : goal.returns-in-Judged
unfolding part_cells part_said
returns-in-Judged c = rw (c.in-Judged.is, sym c.file_cells.ensures)
