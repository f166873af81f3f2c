use borrow.Author.Rules.{rules}
use Rattle.pages.specs.Page.{stretch_page}
use Rattle.pages.proofs.send_whole.Goals as goal

pub returns : goal.returns
unfolding stretch_page
returns c = search rules
