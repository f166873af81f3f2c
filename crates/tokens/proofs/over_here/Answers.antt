use mathlib.Core.Path.{◌≡◌}
use Prim.Native.Nat.{ℕ}
use native.Mathlib.Omega.{arith}
use Rattle.tokens.proofs.Leads.{over_parted}
use Rattle.tokens.proofs.over_here.Goals as goal

pub returns-then-d-at : goal.returns-then-d-at
returns-then-d-at c e = let z : ◌≡◌ {A = ℕ} 0 1 = cc in absurd (omega arith)

pub returns : goal.returns
returns c e =
    let a = c.args in
    let p = c.parts.ensures e in
    over_parted a.d.now a.at (omega arith) p.0 p.1
