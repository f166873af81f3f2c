use Rattle.std.proofs.Common.{rules}
use Rattle.statements.specs.Opening.{opening_of}
use Rattle.statements.proofs.read_opening.Goals as goal

pub returns-in_err-n : goal.returns-in_err-n
unfolding opening_of
returns-in_err-n c = search rules

pub returns : goal.returns
unfolding opening_of
returns c = search rules
