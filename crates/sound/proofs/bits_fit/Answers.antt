use mir.Facts.{to_z-of_z}
use borrow.Author.Rules.{sfits_of}
use Rattle.below.specs.rule.Below.{◌and◌}
use Rattle.layout.specs.rule.Row.{row_of}
use Rattle.widths.specs.rule.Width.{need}
use Rattle.sound.specs.rule.Sound.{width_good, room_good}
use Rattle.sound.specs.Values.{ends_width}
use Rattle.sound.proofs.bits_fit.Goals as goal

pub returns : goal.returns
unfolding width_good room_good ends_width need row_of ◌and◌
returns c = rw (
  c.width_held.ensures,
  c.signed_of.ensures,
  to_z-of_z (sfits_of c.top_of.type_inv),
  c.top_of.ensures,
)
