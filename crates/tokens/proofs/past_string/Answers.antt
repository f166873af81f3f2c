use Rattle.tokens.specs.Token.{past_string}
use Rattle.tokens.proofs.past_string.Goals as goal

pub returns-in-Ok : goal.returns-in-Ok
unfolding past_string
returns-in-Ok c =
    rw c.in-Ok.is

pub returns-in-Err : goal.returns-in-Err
unfolding past_string
returns-in-Err c =
    rw c.in-Err.is
