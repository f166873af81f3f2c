use mathlib.Core.Path.{◌≡◌, sym, ◌∙◌}
use Prim.Native.Nat.{suc, ◌+◌, ◌-◌, ◌*◌, ◌≤◌}
use native.Mathlib.Omega.{arith}
use lib.ListN.{length}
use Rattle.setbytes.proofs.SpreadSteps.{inside, blank_on, done}
use Rattle.setbytes.proofs.spread.blank_spread.Goals as goal
use Rattle.setbytes.proofs.spread.blank_spread.Goals.{In-loop}

-- the subfield that is next, and the others, lie in the bytes
room : (c : In-loop) → let l = c.loop in let a = c.args in
    (l.at + a.b ≤ length a.bytes.now) × (l.at + a.b + (a.n - (l.counter + 1)) * a.b ≤ length a.bytes.now)
room c =
    let l = c.loop in
    let a = c.args in
    let e : a.n - l.counter ≡ suc (a.n - (l.counter + 1)) = omega arith in
    inside l.at _ a.w (a.n - l.counter) (a.n - (l.counter + 1)) e _ l.invariant.0

pub loop-preserved : goal.loop-preserved
loop-preserved c =
    let l = c.loop in
    let a = c.args in
    let e : a.n - l.counter ≡ suc (a.n - (l.counter + 1)) = omega arith in (
      (room (goal.at.loop-preserved c).In-loop).1,
      rw c.blank.ensures (blank_on l.at a.b a.w (a.n - l.counter) (a.n - (l.counter + 1)) e _ ∙ l.invariant.1),
    )

pub returns : goal.returns
returns c = sym (done _ _ _ _ _ _ (omega arith)) ∙ c.loop.invariant.1
