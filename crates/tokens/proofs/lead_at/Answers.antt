use mathlib.Core.Path.{◌≡◌, ◌∙◌}
use Prim.Native.Nat.{◌+◌, ◌-◌}
use native.Mathlib.Omega.{arith}
use Rattle.tokens.proofs.Leads.{lead_next}
use Rattle.tokens.proofs.lead_at.Goals as goal

pub loop-i-init : goal.loop-i-init
loop-i-init c =
    let z : c.args.at - c.args.at ≡ 0 = omega arith in
    (rw z, omega arith, omega arith)

pub loop-i-preserved : goal.loop-i-preserved
loop-i-preserved c =
    let l = c.loop-i in
    let at = c.args.at in
    let q : (l.i - at) + 1 ≡ (l.i + 1) - at = omega arith in (
      l.invariant.0 ∙ lead_next _ l.i l.v (l.i - at) (omega arith) (omega arith) (omega arith) (omega arith) ∙ rw q,
      omega arith,
      omega arith,
    )

pub returns : goal.returns
returns c =
    let e : c.max.result ≡ c.loop-i.i = omega arith in
    record { at_value = rw e c.loop-i.invariant.0; at_le_end = (omega arith, omega arith) }
