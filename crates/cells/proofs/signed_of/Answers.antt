-- `cells::signed_of` meets its contract: the sign and the size are what `signed_of` says.
use mir.Facts.{to_z-of_z}
use Rattle.cells.proofs.Signs.{sign_is}
use Rattle.cells.proofs.signed_of.Goals as goal

pub returns : goal.returns
returns c = rw (c.unsigned_abs.ensures.value, to_z-of_z c.ranges.x) (sign_is _)
