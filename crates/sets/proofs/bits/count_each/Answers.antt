use mathlib.Core.Path.{refl, ap}
use Prim.Native.Nat.{◌+◌}
use native.Mathlib.Omega.{arith}
use native.Mathlib.Nat.{sub-zero}
use lib.ListN.{length, get_or}
use Rattle.sets.specs.Full.{always}
use Rattle.sets.proofs.BitLaws.{few_bit, count_more, count_whole, set_end}
use Rattle.sets.proofs.bits.count_each.Goals as goal

pub loop-i-preserved : goal.loop-i-preserved
loop-i-preserved c =
    let a = c.args in let l = c.loop-i in
    let e = count_more always a.w l.i c.loop-i-test.true a.bytes.now a.at refl in
    let b = c.bit_of-n.ensures in let m = few_bit c.bit_of-n.result (get_or a.bytes.now (a.at + l.i) 0) b in
    (omega arith, omega arith)

pub returns : goal.returns
returns c =
    let a = c.args in
    let e = ap length (set_end always a.w a.bytes.now a.at c.loop-i.i c.loop-i-test.false) in
    rw (sub-zero a.w) at (count_whole _ _ _ c.loop-i.invariant.1 e)
