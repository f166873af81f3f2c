use Rattle.variables.specs.Head.{past_type}
use Rattle.variables.proofs.past_type.Goals as goal

pub returns-in-Is : goal.returns-in-Is
unfolding past_type
returns-in-Is c =
    rw c.in-Is.is

pub returns-in-Not : goal.returns-in-Not
unfolding past_type
returns-in-Not c =
    rw c.in-Not.is
