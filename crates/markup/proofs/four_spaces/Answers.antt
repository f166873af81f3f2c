use mathlib.Core.Path.{sym, ◌∙◌}
use native.Mathlib.Omega.{arith}
use Rattle.markup.proofs.Whites.{four_white}
use Rattle.markup.proofs.four_spaces.Goals as goal

pub returns : goal.returns
returns c e = four_white _ _ (omega arith) (sym c.are_four.ensures ∙ e)
