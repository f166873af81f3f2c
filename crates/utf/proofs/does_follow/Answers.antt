use borrow.Author.Rules.{rules}
use Rattle.utf.specs.rule.Cut.{follows}
use Rattle.utf.proofs.does_follow.Goals as goal

pub returns : goal.returns
unfolding follows
returns c = search rules
