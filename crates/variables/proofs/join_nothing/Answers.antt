use Rattle.std.proofs.Common.{rules}
use Rattle.variables.specs.Rest.{join_nothing, rested_of}
use Rattle.variables.proofs.Tellings.{rested_none}
use Rattle.variables.proofs.join_nothing.Goals as goal

pub returns-in_err-next : goal.returns-in_err-next
unfolding join_nothing rested_of
returns-in_err-next c = search rules

pub returns : goal.returns
unfolding join_nothing rested_of
returns c = rw (c.in_ok-next.was, c.empty_block-block.ensures) (rested_none _ _ _)
