use Rattle.tokens.specs.Token.{past_number}
use Rattle.tokens.proofs.past_number.Goals as goal

pub returns-in-Ok : goal.returns-in-Ok
unfolding past_number
returns-in-Ok c =
    rw c.in-Ok.is

pub returns-in-Err : goal.returns-in-Err
unfolding past_number
returns-in-Err c =
    rw c.in-Err.is
