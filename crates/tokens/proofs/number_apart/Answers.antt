use mathlib.Core.Path.{sym}
use borrow.Author.Tests.{eq-eqb, ne_eqb}
use Rattle.tokens.specs.Token.{of_digits, number_here}
use Rattle.tokens.proofs.number_apart.Goals as goal

pub returns-then-r-eq0 : goal.returns-then-r-eq0
unfolding number_here of_digits
returns-then-r-eq0 c = rw (sym c.read_digits-r.ensures, eq-eqb _ 0 c.if-r-eq0.true)

pub returns : goal.returns
unfolding number_here of_digits
returns c = rw (sym c.read_digits-r.ensures, ne_eqb _ 0 c.if-r-eq0.false)
