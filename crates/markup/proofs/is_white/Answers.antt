use borrow.Author.Rules.{rules}
use Rattle.markup.specs.rule.Bytes.{is_white}
use Rattle.markup.proofs.is_white.Goals as goal

pub returns : goal.returns
unfolding is_white
returns c = search rules
