use native.Mathlib.Omega.{arith}
use borrow.Author.Tests.{eq-eqb, ne_eqb, le-leb, lt-leb}
use Rattle.markup.proofs.name_long.Goals as goal

pub returns-then-code-ge60 : goal.returns-then-code-ge60
returns-then-code-ge60 c = rw (le-leb 60 c.args.code c.if-code-ge60.true)

pub returns-then-code-eq38 : goal.returns-then-code-eq38
returns-then-code-eq38 c = rw (lt-leb 60 c.args.code (omega arith), eq-eqb _ 38 c.if-code-eq38.true)

pub returns-else-code-eq38 : goal.returns-else-code-eq38
returns-else-code-eq38 c = rw (lt-leb 60 c.args.code (omega arith), ne_eqb _ 38 c.if-code-eq38.false)
