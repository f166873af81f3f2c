use mathlib.Core.Path.{◌≡◌}
use Prim.Native.Nat.{ℕ, ◌+◌}
use native.Mathlib.Omega.{arith}
use Rattle.tokens.proofs.Leads.{over_parted, over_dropped}
use Rattle.tokens.proofs.over_soon.Goals as goal

pub returns-then-d-lt3 : goal.returns-then-d-lt3
returns-then-d-lt3 c e = let z : ◌≡◌ {A = ℕ} 0 1 = cc in absurd (omega arith)

pub returns-then-d-at : goal.returns-then-d-at
returns-then-d-at c e = let z : ◌≡◌ {A = ℕ} 0 1 = cc in absurd (omega arith)

pub returns-then-b-ge32 : goal.returns-then-b-ge32
returns-then-b-ge32 c e =
    let a = c.args in
    let p = c.parts.ensures e in
    over_parted a.d.now a.at (omega arith) p.0 p.1

pub returns-then-c-ge32 : goal.returns-then-c-ge32
returns-then-c-ge32 c e =
    let a = c.args in
    let p = c.parts-then-c-ge32.ensures e in
    over_dropped a.d.now a.at (omega arith) (omega arith)
    (over_parted a.d.now (a.at + 1) (omega arith) p.0 p.1)

pub returns : goal.returns
returns c e =
    let a = c.args in
    let p = c.parts-2.ensures e in
    let q : a.at + 1 + 1 ≡ a.at + 2 = omega arith in
    over_dropped a.d.now a.at (omega arith) (omega arith)
    (over_dropped a.d.now (a.at + 1) (omega arith) (omega arith)
    (rw q (over_parted a.d.now (a.at + 2) (omega arith) p.0 p.1)))
