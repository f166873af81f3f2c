use Rattle.cells.specs.Cell.{bits_same}
use Rattle.cells.proofs.same.Goals as goal

pub returns : goal.returns
returns c = bits_same _ _ c.ranges.a c.ranges.b
