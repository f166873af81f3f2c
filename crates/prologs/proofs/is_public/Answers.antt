use borrow.Author.Rules.{rules}
use Rattle.prologs.specs.rule.Told.{is_public}
use Rattle.prologs.proofs.is_public.Goals as goal

pub returns : goal.returns
unfolding is_public
returns c = search rules
