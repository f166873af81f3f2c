use mathlib.Core.Path.{◌∙◌}
use Rattle.measures.specs.Width.{width_of}
use Rattle.measures.proofs.Measures.{width_valued}
use Rattle.measures.proofs.width_of.Goals as goal

pub returns-in-Single : goal.returns-in-Single
returns-in-Single c = c.widest.ensures ∙ width_valued _ _ _ _ (rw c.in-Single.is tt)

pub returns-in-Multiple : goal.returns-in-Multiple
returns-in-Multiple c = c.widest-in-Multiple.ensures ∙ width_valued _ _ _ _ (rw c.in-Multiple.is tt)

pub returns-in-Quantity : goal.returns-in-Quantity
returns-in-Quantity c = c.widest-in-Quantity.ensures ∙ width_valued _ _ _ _ (rw c.in-Quantity.is tt)

pub returns-in-Character : goal.returns-in-Character
unfolding width_of
returns-in-Character c =
    rw c.in-Character.is

pub returns-in-Logical : goal.returns-in-Logical
unfolding width_of
returns-in-Logical c =
    rw c.in-Logical.is
