use mathlib.Core.Path.{◌∙◌, sym}
use Rattle.values.specs.Room.{holds}
use Rattle.values.proofs.Rooms.{unless_on, unless_told}
use Rattle.variables.specs.Rest.{values_rest}
use Rattle.variables.proofs.Tellings.{never, rested_is, rested_not, stored_values}
use Rattle.variables.proofs.values_rest.Goals as goal

pub returns-in-Is : goal.returns-in-Is
unfolding values_rest
returns-in-Is c =
    let g = c.in-Is.is in
    let e = unless_told c.values_on.ensures (λ s. let q = sym g ∙ s in never cc) in
    holds (rested_is _ _ _ _ (sym g ∙ e.0), stored_values _ _ _ _ e.1)

pub returns-in-Not : goal.returns-in-Not
unfolding values_rest
returns-in-Not c =
    let g = c.in-Not.is in
    unless_on (λ s. let q = sym g ∙ s in cc) (λ l. l) (λ e. (rested_not _ _ _ _ (sym g ∙ e.0), stored_values _ _ _ _ e.1))
    c.values_on.ensures
