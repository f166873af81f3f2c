use mathlib.Core.Path.{◌≡◌, sym, ◌∙◌}
use mathlib.Core.Bool.{true, false}
use Prim.Native.Nat.{◌+◌}
use lib.IntN.{pos}
use Rattle.fields.specs.rule.Legal.{legal}
use Rattle.setbytes.proofs.BitSteps.{blank_taken, blank_passed, done}
use Rattle.setbytes.proofs.bits.blank_bits.Goals as goal
use Rattle.setbytes.proofs.bits.blank_bits.Goals.{then-allows, else-allows}

pub loop-k-preserved : goal.loop-k-preserved
loop-k-preserved c =
    let l = c.loop-k in
    let a = c.args in
    let ok = legal a.t.now a.rows a.row in
    elim c.if-allows.branch [
      | then-allows w ↦
          let yes : ok (pos (l.k + 1)) ≡ true = sym c.allows.ensures ∙ w.if-allows.true in
          rw w.bytes-is (blank_taken ok a.at a.w l.bytes l.k c.loop-k-test.true yes ∙ l.invariant)
      | else-allows w ↦
          let no : ok (pos (l.k + 1)) ≡ false = sym c.allows.ensures ∙ w.if-allows.false in
          rw w.bytes-is (blank_passed ok a.at a.w l.bytes l.k c.loop-k-test.true no ∙ l.invariant)
    ]

pub returns : goal.returns
returns c = sym (done _ _ _ _ _ _ c.loop-k-test.false) ∙ c.loop-k.invariant
