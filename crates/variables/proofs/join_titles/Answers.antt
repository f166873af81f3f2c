use Rattle.std.proofs.Common.{rules}
use Rattle.variables.specs.Head.{join_titles}
use Rattle.variables.proofs.join_titles.Goals as goal

pub returns-in_err-ident : goal.returns-in_err-ident
unfolding join_titles
returns-in_err-ident c = search rules

pub returns-in_err-name : goal.returns-in_err-name
unfolding join_titles
returns-in_err-name c = search rules

pub returns-in_err-label : goal.returns-in_err-label
unfolding join_titles
returns-in_err-label c = search rules

pub returns : goal.returns
unfolding join_titles
returns c = search rules
