use Rattle.tokens.specs.Token.{past_value}
use Rattle.tokens.proofs.past_value.Goals as goal

pub returns-in-Ok : goal.returns-in-Ok
unfolding past_value
returns-in-Ok c =
    rw c.in-Ok.is

pub returns-in-Err : goal.returns-in-Err
unfolding past_value
returns-in-Err c =
    rw c.in-Err.is
