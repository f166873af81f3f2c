use Rattle.std.proofs.Common.{rules}
use Rattle.statements.specs.Spread.{fields_of}
use Rattle.statements.proofs.fields.Goals as goal

pub returns-in_err-x : goal.returns-in_err-x
unfolding fields_of
returns-in_err-x c = search rules

pub returns-in_err-y : goal.returns-in_err-y
unfolding fields_of
returns-in_err-y c = search rules

pub returns : goal.returns
unfolding fields_of
returns c = search rules
