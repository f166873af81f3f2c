use mir.Facts.{to_z-of_z}
use borrow.Author.Rules.{sfits_of}
use Rattle.cells.proofs.count_at.Goals as goal

pub returns : goal.returns
returns c = rw (c.count_of.ensures, to_z-of_z (sfits_of c.count_of-arg-1.given))
