use borrow.Author.Rules.{rules}
use Rattle.spans.specs.rule.Says.{is_letter}
use Rattle.spans.proofs.is_letter.Goals as goal

pub returns : goal.returns
unfolding is_letter
returns c = search rules
