use mathlib.Core.Path.{◌≡◌, refl, sym, ◌∙◌}
use mathlib.Core.Bool.{Bool, true, false, cond}
use Prim.Native.Nat.{◌+◌, ◌≤◌, ◌<◌}
use native.Mathlib.Nat.{sub-zero}
use native.Mathlib.Omega.{arith}
use lib.IntN.{pos}
use mir.Val.{bool_byte}
use Rattle.fields.specs.rule.Legal.{legal}
use Rattle.setbytes.proofs.BitSteps.{left_on, taken, passed, done}
use Rattle.setbytes.proofs.bits.put_bits.Goals as goal
use Rattle.setbytes.proofs.bits.put_bits.Goals.{After-from-j, then-allows, else-allows}

flag : (b : Bool) → (bool_byte b ≡ cond b 1 0) × (bool_byte b ≤ 1)
flag true = (refl, omega arith)
flag false = (refl, omega arith)

-- the step is one for a member
step : (c : After-from-j) → (c.from-j.result ≡ cond c.next_is-yes.result 1 0) × (c.from-j.result ≤ 1)
step c = rw c.from-j.ensures (flag c.next_is-yes.result)

pub loop-i-init : goal.loop-i-init
loop-i-init c = (omega arith, record { rising = rw sub-zero c.requires.bitstring.1 }, rw sub-zero)

pub loop-i-preserved : goal.loop-i-preserved
loop-i-preserved c =
    let l = c.loop-i in
    let a = c.args in
    let ok = legal a.t.now a.rows a.row in
    let h : l.i < a.w = c.loop-i-test.true in
    let s = step (goal.at.loop-i-preserved c).After-from-j in (
      omega (arith, s.1),
      rw s.0 (left_on ok a.at a.w l.bytes l.i h a.list.now l.j _ c.next_is-yes.ensures l.invariant.1),
      elim c.if-allows.branch [
        | then-allows w ↦
            let yes : ok (pos (l.i + 1)) ≡ true = sym c.allows.ensures ∙ w.if-allows.true in
            rw (w.bytes-is, s.0, w.bit_of.ensures)
            (taken ok a.at a.w l.bytes l.i h a.list.now l.j _ c.next_is-yes.ensures l.invariant.1 yes ∙ l.invariant.2)
        | else-allows w ↦
            let no : ok (pos (l.i + 1)) ≡ false = sym c.allows.ensures ∙ w.if-allows.false in
            rw (w.bytes-is, s.0)
            (passed ok a.at a.w l.bytes l.i h a.list.now l.j _ c.next_is-yes.ensures l.invariant.1 no ∙ l.invariant.2)
      ],
    )

pub returns : goal.returns
returns c = sym (done _ _ _ _ _ _ c.loop-i-test.false) ∙ c.loop-i.invariant.2
