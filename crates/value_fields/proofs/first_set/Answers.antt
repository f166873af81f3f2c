use mathlib.Core.Path.{◌≡◌, ◌∙◌}
use native.Mathlib.Omega.{arith}
use Rattle.value_fields.specs.Legal.{bit_clear}
use Rattle.value_fields.proofs.first_set.Goals as goal

pub returns-then-bytes-p-eq49 : goal.returns-then-bytes-p-eq49
returns-then-bytes-p-eq49 c = record {
  few = omega arith;
  same = c.loop-i.invariant;
  set = λ h.
      c.if-bytes-p-eq49.true;
}

pub loop-i-preserved : goal.loop-i-preserved
loop-i-preserved c =
    let l = c.loop-i in
    let a = c.args in
    l.invariant ∙ bit_clear a.w l.i c.loop-i-test.true a.bytes.now a.p c.if-bytes-p-eq49.false

pub returns : goal.returns
returns c =
    let e : c.loop-i.i ≡ c.args.w = omega arith in
    record { few = omega arith; same = rw e at c.loop-i.invariant; set = λ h. absurd (omega arith) }
