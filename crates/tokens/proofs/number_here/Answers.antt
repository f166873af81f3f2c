use mathlib.Core.Path.{sym}
use Rattle.tokens.specs.Token.{number_here}
use Rattle.tokens.proofs.Leads.{lead_number}
use Rattle.tokens.proofs.number_here.Goals as goal

-- digits side by side, and the number is over
pub returns-then-over_soon : goal.returns-then-over_soon
returns-then-over_soon c =
    let q = c.lead_at-q.ensures in
    rw c.in-Ok.is
    (sym (lead_number _ _ _ _ c.if-n-q.true q.at_le_end.1 q.at_value
    (c.over_soon.ensures c.if-over_soon.true)))

pub returns-after-n-q : goal.returns-after-n-q
returns-after-n-q c = rw c.in-Ok.is c.number_apart.ensures

pub returns-in-Err : goal.returns-in-Err
unfolding number_here
returns-in-Err c = rw c.in-Err.is

pub number_apart-requires : goal.number_apart-requires
number_apart-requires c = c.requires
