use borrow.Author.Rules.{rules}
use Rattle.markup.specs.rule.Bytes.{is_digit}
use Rattle.spans.proofs.is_digit.Goals as goal

pub returns : goal.returns
unfolding is_digit
returns c = search rules
