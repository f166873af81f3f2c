use mathlib.Core.Path.{◌≡◌, sym, ◌∙◌}
use native.Mathlib.Nat.{add-zero}
use native.Mathlib.Omega.{arith}
use Rattle.below.specs.Below.{all_none, all_next, all_more, all_fails}
use Rattle.sets.proofs.alike.run_is.Goals as goal

pub returns-then-n-eq0 : goal.returns-then-n-eq0
returns-then-n-eq0 c = let e : c.args.n ≡ 0 = c.if-n-eq0.true in rw e (sym (all_none _))

pub returns-then-not-is_one : goal.returns-then-not-is_one
returns-then-not-is_one c = sym (all_fails _ _ 0 (omega arith) (rw add-zero (sym c.is_one.ensures ∙ c.if-not-is_one.true)))

pub loop-k-init : goal.loop-k-init
loop-k-init c = sym (all_more _ 0 (all_none _) (rw add-zero (sym c.is_one.ensures ∙ c.if-not-is_one.false)))

pub loop-k-preserved : goal.loop-k-preserved
loop-k-preserved c = rw (c.is_one-good.ensures, c.loop-k.invariant) (sym (all_next _ c.loop-k.k))
