use mathlib.Core.Path.{sym}
use Rattle.heading.specs.Heading.{once_of}
use borrow.Author.Tests.{eq-eqb, ne_eqb}
use Rattle.heading.proofs.read_once.Goals as goal

pub returns-then-q-eq0 : goal.returns-then-q-eq0
unfolding once_of
returns-then-q-eq0 c =
    rw (
      eq-eqb _ _ c.if-q-eq0.true,
      sym c.string_on.ensures,
    )

pub returns : goal.returns
unfolding once_of
returns c =
    rw (
      ne_eqb _ _ c.if-q-eq0.false,
      sym c.met_again-a.ensures,
      sym c.string_on-2.ensures,
    )
