use mathlib.Core.Path.{◌∙◌}
use mir.Facts.{to_z-of_z}
use borrow.Author.Rules.{sfits_of}
use Rattle.values.specs.Value.{scaled_of}
use Rattle.values.proofs.Facts.{large_size}
use mir.Syntax.{w64}
use Rattle.values.proofs.scaled.Goals as goal

pub number_of-requires : goal.number_of-requires
number_of-requires c = large_size _ _ c.requires

pub returns : goal.returns
unfolding scaled_of
returns c = to_z-of_z {w = w64} (sfits_of c.number_of.type_inv) ∙ c.number_of.ensures
