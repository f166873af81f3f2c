use borrow.Author.Tests.{le-leb, lt-leb}
use Rattle.sound.proofs.line_plain.Goals as goal

pub returns-then-l-gt1 : goal.returns-then-l-gt1
returns-then-l-gt1 c = rw (lt-leb _ 1 c.if-l-gt1.true)

pub returns-then-l-gt1048576 : goal.returns-then-l-gt1048576
returns-then-l-gt1048576 c = rw (le-leb _ 1 c.if-l-gt1.false, lt-leb _ 1048576 c.if-l-gt1048576.true)

pub returns : goal.returns
returns c = rw (le-leb _ 1 c.if-l-gt1.false, le-leb _ 1048576 c.if-l-gt1048576.false)
