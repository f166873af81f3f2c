use mathlib.Core.Path.{refl}
use native.Mathlib.Omega.{arith}
use borrow.Author.Tests.{leb-true, eqb-false, not-true}
use Rattle.below.specs.Below.{holds_not}
use Rattle.looks.proofs.goes_on.Goals as goal

pub returns-then-b-gt34 : goal.returns-then-b-gt34
returns-then-b-gt34 c e = record {
  above = omega (arith, c.if-b-gt34.true);
  no_quote = λ z. omega (arith, z, c.if-b-gt34.true);
  no_brace = eqb-false _ _
      (not-true _ e);
}

pub returns-then-b-eq34 : goal.returns-then-b-eq34
returns-then-b-eq34 c e = holds_not e refl

pub returns : goal.returns
returns c e = record { above = leb-true _ _ e; no_quote = c.if-b-eq34.false; no_brace = λ z. omega (arith, z, c.if-b-gt34.false) }
