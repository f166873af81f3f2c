use mathlib.Core.Path.{◌≡◌, ◌∙◌}
use Prim.Native.Nat.{◌+◌, ◌-◌}
use native.Mathlib.Omega.{arith}
use Rattle.tokens.proofs.Leads.{lead_next}
use Rattle.looks.specs.Each.{each_none, each_more}
use Rattle.looks.proofs.figures_at.Goals as goal

pub loop-i-init : goal.loop-i-init
loop-i-init c =
    let z : c.args.at - c.args.at ≡ 0 = omega arith in
    (record { same = rw z; small = omega arith; digits = each_none _ _ }, omega arith)

pub loop-i-preserved : goal.loop-i-preserved
loop-i-preserved c =
    let l = c.loop-i in
    let at = c.args.at in
    let v = l.invariant.0 in
    let q : (l.i - at) + 1 ≡ (l.i + 1) - at = omega arith in (
      record {
        same = v.same ∙ lead_next _ l.i l.v (l.i - at) (omega arith) (omega arith) (omega arith) (omega arith) ∙ rw q;
        small = omega arith;
        digits = each_more v.digits (record { within = omega arith; low = omega arith; high = omega arith });
      },
      omega arith,
    )

pub returns : goal.returns
returns c =
    let e : c.max.result ≡ c.loop-i.i = omega arith in
    rw e c.loop-i.invariant.0
