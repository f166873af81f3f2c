use mathlib.Core.Path.{◌≡◌, sym, ◌∙◌}
use Prim.Native.Nat.{suc, ◌+◌, ◌-◌, ◌*◌, ◌≤◌}
use native.Mathlib.Omega.{arith}
use borrow.Author.Rules.{sfits_of}
use mir.Syntax.{w64}
use mir.Facts.{to_z-of_z}
use lib.ListN.{length}
use Rattle.setbytes.proofs.SpreadSteps.{inside, member_on, done}
use Rattle.setbytes.proofs.spread.put_spread.Goals as goal
use Rattle.setbytes.proofs.spread.put_spread.Goals.{In-loop-i}

-- the subfield that is next, and the others, lie in the bytes
room : (c : In-loop-i) → let l = c.loop-i in let a = c.args in
    (l.at + a.b ≤ length a.bytes.now) × (l.at + a.b + (a.n - (l.i + 1)) * a.b ≤ length a.bytes.now)
room c =
    let l = c.loop-i in
    let a = c.args in
    let e : a.n - l.i ≡ suc (a.n - (l.i + 1)) = omega arith in
    inside l.at _ a.w (a.n - l.i) (a.n - (l.i + 1)) e _ l.invariant.0

pub loop-i-preserved : goal.loop-i-preserved
loop-i-preserved c =
    let l = c.loop-i in
    let a = c.args in
    let e : a.n - l.i ≡ suc (a.n - (l.i + 1)) = omega arith in (
      (room (goal.at.loop-i-preserved c).In-loop-i).1,
      rw c.put_code.ensures
          (member_on l.at a.b a.w (a.n - l.i) (a.n - (l.i + 1)) e _ a.list.now l.i _
          (to_z-of_z (sfits_of {w = w64} c.number.type_inv) ∙ c.number.ensures) ∙ l.invariant.1),
    )

pub returns : goal.returns
returns c = sym (done _ _ _ _ _ _ (omega arith)) ∙ c.loop-i.invariant.1
