-- `cells::count_of` meets its contract: the bits are what `count_of` says.
use mir.Facts.{to_z-of_z}
use Rattle.cells.proofs.Signs.{bits_are}
use Rattle.cells.proofs.count_of.Goals as goal

pub returns : goal.returns
returns c = rw (c.cast_unsigned.ensures, to_z-of_z c.ranges.x) (bits_are _ c.ranges.x)
