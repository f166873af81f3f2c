-- `sharing::claim_one` meets its contract: no stamp, the row's own, another's.
use Rattle.sharing.specs.Claims.{claim_new, claim_own, claim_taken}
use Rattle.sharing.proofs.claim_one.Goals as goal

pub returns-then-x-eq0 : goal.returns-then-x-eq0
returns-then-x-eq0 c = claim_new _ _ _ c.requires c.if-x-eq0.true

pub returns-then-x-own : goal.returns-then-x-own
returns-then-x-own c = claim_own _ _ _ c.if-x-own.true

pub returns : goal.returns
returns c = claim_taken _ _ _ c.if-x-eq0.false c.if-x-own.false
