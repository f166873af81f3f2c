-- `field_judges::stops` meets its contract.
use mathlib.Core.Path.{refl}
use native.Mathlib.Omega.{arith}
use borrow.Author.Tests.{eqb-true}
use Rattle.below.specs.Below.{holds_not}
use Rattle.field_judges.specs.Judged.{stops_comma, stops_cr}
use Rattle.field_judges.proofs.stops.Goals as goal

pub returns-then-d-i : goal.returns-then-d-i
returns-then-d-i c = λ e. holds_not e refl

pub returns-then-d-i-eq44 : goal.returns-then-d-i-eq44
returns-then-d-i-eq44 c = λ e. stops_comma _ _ (omega (arith, c.if-d-i.false)) c.if-d-i-eq44.true

pub returns : goal.returns
returns c = λ e. stops_cr _ _ (omega (arith, c.if-d-i.false)) (eqb-true _ _ e)
