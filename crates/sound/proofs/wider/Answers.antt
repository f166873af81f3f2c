use mir.Facts.{to_z-of_z}
use mathlib.Core.Path.{◌∙◌}
use Rattle.sound.proofs.wider.Goals as goal

pub returns : goal.returns
returns c =
    c.larger.ensures
    ∙ rw (
      c.needed.ensures,
      c.needed-2.ensures,
      to_z-of_z c.ranges.a,
      to_z-of_z c.ranges.b,
    )
