use Rattle.strides.specs.Stride.{above}
use mir.Facts.{to_z-of_z}
use borrow.Author.Rules.{sfits_of}
use Rattle.strides.proofs.above_last.Goals as goal

pub returns : goal.returns
unfolding above
returns c =
    rw (
      c.not_above.ensures,
      to_z-of_z (sfits_of c.number_at.type_inv),
      c.number_at.ensures,
      to_z-of_z (sfits_of c.number_at-2.type_inv),
      c.number_at-2.ensures,
    )
