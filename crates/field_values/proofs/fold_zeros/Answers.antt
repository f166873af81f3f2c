use mathlib.Core.Path.{◌≡◌, refl, sym, ◌∙◌}
use Prim.Native.Nat.{◌+◌, ◌-◌}
use native.Mathlib.Nat.{sub-zero}
use native.Mathlib.Omega.{arith}
use Rattle.field_values.specs.Steps.{capped_zero, capped_none, capped_small}
use Rattle.field_values.proofs.fold_zeros.Goals as goal

pub loop-init : goal.loop-init
loop-init c = rw sub-zero (refl, c.requires)

pub loop-preserved : goal.loop-preserved
loop-preserved c =
    let l = c.loop in
    let n = c.args.count in
    let less : n - l.counter - 1 ≡ n - (l.counter + 1) = omega arith in (
      l.invariant.0 ∙ rw less at (capped_zero l.n (n - l.counter) (omega arith)) ∙ rw c.step-n.ensures,
      rw c.step-n.ensures (capped_small _),
    )

pub returns : goal.returns
returns c = (
  sym (c.loop.invariant.0 ∙ capped_none c.loop.n _ (omega arith)),
  c.loop.invariant.1,
)
