use borrow.Author.Rules.{rules}
use Rattle.below.specs.Table.{table_at}
use Rattle.ascii.specs.rule.Class.{class_of}
use Rattle.ascii.proofs.class_of.Goals as goal

pub returns : goal.returns
returns c = rw c.requires (table_at class_of 256 _ (search rules))
