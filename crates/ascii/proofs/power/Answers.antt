use borrow.Author.Rules.{rules}
use Rattle.below.specs.Table.{table_at}
use Rattle.ascii.specs.rule.Tens.{ten_to}
use Rattle.ascii.proofs.power.Goals as goal

pub returns : goal.returns
returns c = rw c.requires.tens (table_at ten_to 16 _ (search rules))
