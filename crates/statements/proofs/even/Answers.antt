use Rattle.std.proofs.Common.{rules}
use Rattle.statements.specs.Spread.{even_of}
use Rattle.statements.proofs.even.Goals as goal

pub returns-in_err-x : goal.returns-in_err-x
unfolding even_of
returns-in_err-x c = search rules

pub returns-in_err-next : goal.returns-in_err-next
unfolding even_of
returns-in_err-next c = search rules

pub returns : goal.returns
unfolding even_of
returns c = search rules
