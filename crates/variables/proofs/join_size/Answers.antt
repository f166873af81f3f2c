use Rattle.std.proofs.Common.{rules}
use Rattle.variables.specs.Rest.{join_size, rested_of}
use Rattle.variables.proofs.Tellings.{rested_none}
use Rattle.variables.proofs.join_size.Goals as goal

pub returns-in_err-x : goal.returns-in_err-x
unfolding join_size rested_of
returns-in_err-x c = search rules

pub returns : goal.returns
unfolding join_size rested_of
returns c = rw (c.in_ok-x.was, c.empty_block-block.ensures) (rested_none _ _ _)
