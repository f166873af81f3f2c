use mathlib.Core.Path.{◌≡◌, sym, ◌∙◌}
use native.Mathlib.Omega.{arith}
use lib.ListN.{length}
use Rattle.csv_fields.specs.Page.{bared_none, bared_to}
use Rattle.csv_fields.proofs.Page.{bared_more}
use Rattle.csv_fields.proofs.bare_to.Goals as goal

pub loop-i-init : goal.loop-i-init
loop-i-init c = bared_none _ _ c.requires

pub returns-then-special : goal.returns-then-special
returns-then-special c = bared_to c.loop-i.invariant (λ h. sym c.special.ensures ∙ c.if-special.true)

pub loop-i-preserved : goal.loop-i-preserved
loop-i-preserved c = bared_more c.loop-i.invariant c.loop-i-test.true
    (sym c.special.ensures ∙ c.if-special.false)

pub returns : goal.returns
returns c =
    let e : c.loop-i.i ≡ length c.args.d.now = omega arith in
    bared_to (rw e at c.loop-i.invariant) (λ h. absurd (omega (arith, h)))
