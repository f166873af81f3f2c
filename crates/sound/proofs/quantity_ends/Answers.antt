use mathlib.Core.Path.{◌∙◌}
use mir.Facts.{to_z-of_z}
use borrow.Author.Rules.{sfits_of}
use Rattle.widths.specs.rule.Width.{need}
use Rattle.sound.specs.Values.{ends_width}
use Rattle.sound.proofs.quantity_ends.Goals as goal

pub returns : goal.returns
unfolding ends_width need
returns c =
    c.larger.ensures
    ∙ rw (
      c.quantity_width.ensures,
      c.quantity_width-2.ensures,
      to_z-of_z (sfits_of c.bottom_of.type_inv),
      c.bottom_of.ensures,
      to_z-of_z (sfits_of c.top_of.type_inv),
      c.top_of.ensures,
    )
