use mathlib.Core.Path.{◌≡◌}
use native.Mathlib.Omega.{arith}
use Rattle.utf.proofs.of_two.Goals as goal

pub returns-then-k-eq0 : goal.returns-then-k-eq0
returns-then-k-eq0 c = rw c.if-k-eq0.true c.lead.ensures

pub returns : goal.returns
returns c = let e : c.args.k ≡ 1 = omega arith in rw e c.six.ensures
