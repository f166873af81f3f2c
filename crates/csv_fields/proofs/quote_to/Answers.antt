use mathlib.Core.Path.{◌≡◌}
use native.Mathlib.Omega.{arith}
use lib.ListN.{length}
use Rattle.csv_fields.specs.Page.{quoted_none, quoted_more, quoted_to}
use Rattle.csv_fields.proofs.quote_to.Goals as goal

pub loop-i-init : goal.loop-i-init
loop-i-init c = quoted_none _ _ c.requires

pub returns-then-d-i-eq34 : goal.returns-then-d-i-eq34
returns-then-d-i-eq34 c = quoted_to c.loop-i.invariant (λ h. c.if-d-i-eq34.true)

pub loop-i-preserved : goal.loop-i-preserved
loop-i-preserved c = quoted_more c.loop-i.invariant c.loop-i-test.true c.if-d-i-eq34.false

pub returns : goal.returns
returns c =
    let e : c.loop-i.i ≡ length c.args.d.now = omega arith in
    quoted_to (rw e at c.loop-i.invariant) (λ h. absurd (omega (arith, h)))
