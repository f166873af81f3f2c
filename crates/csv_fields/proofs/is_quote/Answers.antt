-- `csv_fields::is_quote` meets its contract.
use borrow.Author.Tests.{lt-ltb, le-ltb}
use Rattle.csv_fields.specs.Page.{quote_at}
use Rattle.csv_fields.proofs.is_quote.Goals as goal

pub returns-then-i-d : goal.returns-then-i-d
unfolding quote_at
returns-then-i-d c = rw (lt-ltb _ _ c.if-i-d.true)

pub returns-else-i-d : goal.returns-else-i-d
unfolding quote_at
returns-else-i-d c = rw (le-ltb _ _ c.if-i-d.false)
