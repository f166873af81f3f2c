use mathlib.Core.Path.{refl, ◌∙◌, sym}
use Rattle.values.specs.Room.{holds}
use Rattle.variables.specs.Rest.{spread_then}
use Rattle.variables.specs.Rest.{rested_of}
use Rattle.variables.proofs.Tellings.{stored_not}
use Rattle.variables.proofs.spread_then.Goals as goal

pub returns-in-Ok : goal.returns-in-Ok
unfolding spread_then
returns-in-Ok c =
    rw (
      sym c.notes_on-n.ensures,
      sym c.perhaps.ensures ∙ c.in-Taken.is,
      sym c.spread_rest.ensures ∙ c.in-Ok.is,
    ) c.values_rest.ensures

pub returns-in-Err : goal.returns-in-Err
unfolding spread_then rested_of
returns-in-Err c =
    rw (
      sym c.notes_on-n.ensures,
      sym c.perhaps.ensures ∙ c.in-Taken.is,
      sym c.spread_rest.ensures ∙ c.in-Err.is,
    ) (holds (refl, stored_not _ _ _ _))

pub returns-in-Left : goal.returns-in-Left
unfolding spread_then
returns-in-Left c =
    rw (
      sym c.notes_on-n.ensures,
      sym c.perhaps.ensures ∙ c.in-Left.is,
    ) c.values_rest-in-Left.ensures
