use Rattle.layout.specs.rule.Row.{row_of}
use borrow.Author.Rules.{rules}
use Rattle.layout.proofs.Row.of.Goals as goal

pub returns : goal.returns
unfolding row_of
returns c = search rules
