use Rattle.variables.specs.Ident.{wrong_ident}
use borrow.Author.Tests.{le-ltb, lt-ltb}
use Rattle.variables.proofs.wrong_ident.Goals as goal

pub returns-then-x-gt4 : goal.returns-then-x-gt4
unfolding wrong_ident
returns-then-x-gt4 c =
    rw (lt-ltb _ _ c.if-x-gt4.true)

pub returns-then-n-lt10000 : goal.returns-then-n-lt10000
unfolding wrong_ident
returns-then-n-lt10000 c =
    rw (
      le-ltb _ _ c.if-x-gt4.false,
      lt-ltb _ _ c.if-n-lt10000.true,
    )

pub returns : goal.returns
unfolding wrong_ident
returns c =
    rw (
      le-ltb _ _ c.if-x-gt4.false,
      le-ltb _ _ c.if-n-lt10000.false,
    )
