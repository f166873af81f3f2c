use mathlib.Core.Path.{sym}
use borrow.Author.Tests.{eq-eqb, ne_eqb}
use Rattle.tokens.specs.Token.{of_value, value_here}
use Rattle.tokens.proofs.value_apart.Goals as goal

pub returns-then-v-n : goal.returns-then-v-n
unfolding value_here of_value
returns-then-v-n c = rw (sym c.read_value-v.ensures, eq-eqb _ _ c.if-v-n.true)

pub returns : goal.returns
unfolding value_here of_value
returns c = rw (sym c.read_value-v.ensures, ne_eqb _ _ c.if-v-n.false)
