use Rattle.std.proofs.Common.{rules}
use Rattle.values.specs.Line.{said_of}
use Rattle.values.proofs.join_line.Goals as goal

pub returns-in_err-value : goal.returns-in_err-value
unfolding said_of
returns-in_err-value c = search rules

pub returns-in_err-text : goal.returns-in_err-text
unfolding said_of
returns-in_err-text c = search rules

pub returns-in_err-next : goal.returns-in_err-next
unfolding said_of
returns-in_err-next c = search rules

pub returns : goal.returns
unfolding said_of
returns c = search rules
