use mathlib.Core.Path.{sym, ap, ◌∙◌}
use Prim.Native.Nat.{◌+◌}
use native.Mathlib.Omega.{arith}
use native.Mathlib.Nat.{sub-zero}
use lib.ListN.{length, get_or}
use Rattle.fields.specs.rule.Legal.{legal}
use Rattle.sets.proofs.BitLaws.{few_bit, count_more, count_whole, no_set, set_end}
use Rattle.sets.proofs.bits.count_set.Goals as goal
use Rattle.sets.proofs.bits.count_set.Goals.{then-allows, else-allows}

pub loop-i-preserved : goal.loop-i-preserved
loop-i-preserved c =
    let a = c.args in
    let l = c.loop-i in
    let ok = legal a.t.now a.rows a.row in
    elim c.if-allows.branch [
      | then-allows w ↦
          let e = count_more ok a.w l.i c.loop-i-test.true a.bytes.now a.at (sym c.allows.ensures ∙ w.if-allows.true) in
          let m = few_bit w.bit_of-n.result (get_or a.bytes.now (a.at + l.i) 0) w.bit_of-n.ensures in
          (omega (arith, w.bit_of-n.ensures), omega (arith, w.bit_of-n.ensures))
      | else-allows w ↦
          let e = ap length (no_set ok a.w l.i c.loop-i-test.true a.bytes.now a.at (sym c.allows.ensures ∙ w.if-allows.false)) in
          (omega arith, omega arith)
    ]

pub returns : goal.returns
returns c =
    let a = c.args in
    let e = ap length (set_end (legal a.t.now a.rows a.row) a.w a.bytes.now a.at c.loop-i.i
    c.loop-i-test.false) in
    rw (sub-zero a.w) at (count_whole _ _ _ c.loop-i.invariant.1 e)
