use Rattle.markup.specs.rule.Bytes.{starts_name, is_name}
use Rattle.markup.proofs.is_name.Goals as goal

pub returns-then-b : goal.returns-then-b
unfolding is_name starts_name
returns-then-b c = rw c.if-b.true

pub returns : goal.returns
unfolding is_name
returns c = rw (c.starts_name.ensures, c.is_digit.ensures)
