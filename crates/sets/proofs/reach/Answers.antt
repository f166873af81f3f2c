-- `sets::reach` meets its contract: a power for each width.
use mathlib.Core.Path.{◌≡◌, sym, ap}
use Prim.Native.Nat.{◌^◌}
use native.Mathlib.Omega.{arith}
use Rattle.sets.proofs.reach.Goals as goal

pub returns-then-w-eq1 : goal.returns-then-w-eq1
returns-then-w-eq1 c = sym (ap (λ w. 10 ^ w) c.if-w-eq1.true)

pub returns-then-w-eq2 : goal.returns-then-w-eq2
returns-then-w-eq2 c = sym (ap (λ w. 10 ^ w) c.if-w-eq2.true)

pub returns-then-w-eq3 : goal.returns-then-w-eq3
returns-then-w-eq3 c = sym (ap (λ w. 10 ^ w) c.if-w-eq3.true)

pub returns-then-w-eq4 : goal.returns-then-w-eq4
returns-then-w-eq4 c = sym (ap (λ w. 10 ^ w) c.if-w-eq4.true)

pub returns-else-w-eq4 : goal.returns-else-w-eq4
returns-else-w-eq4 c = let e : c.args.w ≡ 0 = omega arith in sym (ap (λ w. 10 ^ w) e)
