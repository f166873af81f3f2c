use mathlib.Core.Path.{sym}
use Rattle.tokens.specs.Token.{value_here}
use Rattle.tokens.proofs.Leads.{lead_here}
use Rattle.tokens.proofs.value_here.Goals as goal

-- digits side by side, and the value is over
pub returns-then-over_here : goal.returns-then-over_here
returns-then-over_here c =
    let q = c.lead_at-q.ensures in
    rw c.in-Ok.is
    (sym (lead_here _ _ _ _ c.if-n-q.true q.at_le_end.1 q.at_value
    (c.over_here.ensures c.if-over_here.true)))

pub returns-after-n-q : goal.returns-after-n-q
returns-after-n-q c = rw c.in-Ok.is c.value_apart.ensures

pub returns-in-Err : goal.returns-in-Err
unfolding value_here
returns-in-Err c = rw c.in-Err.is

pub value_apart-requires : goal.value_apart-requires
value_apart-requires c = c.requires
