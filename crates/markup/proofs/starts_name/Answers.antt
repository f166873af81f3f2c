use borrow.Author.Rules.{rules}
use Rattle.markup.specs.rule.Bytes.{starts_name}
use Rattle.markup.proofs.starts_name.Goals as goal

pub returns : goal.returns
unfolding starts_name
returns c = search rules
