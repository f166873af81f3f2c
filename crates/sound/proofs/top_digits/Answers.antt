use mathlib.Core.Path.{◌∙◌}
use mir.Facts.{to_z-of_z}
use borrow.Author.Rules.{sfits_of}
use Rattle.sound.proofs.top_digits.Goals as goal

pub returns : goal.returns
returns c = c.digit_count.ensures ∙ rw (
  c.signed_of.ensures,
  to_z-of_z (sfits_of c.top_of.type_inv),
  c.top_of.ensures,
)
