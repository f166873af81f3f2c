use mathlib.Core.Path.{refl, ap}
use native.Mathlib.Omega.{arith}
use Rattle.sink.specs.Sent.{all_owed, less_owed, none_owed, owed_as, sent_as}
use Rattle.value_fields.specs.rule.Values.{codes_behind}
use Rattle.value_fields.specs.Legal.{bit_clear, codes_set, bits_over}
use Rattle.value_fields.proofs.Legal.{count_code}
use Rattle.value_fields.proofs.send_set_bits.Goals as goal
use Rattle.value_fields.proofs.send_set_bits.Goals.{then-bytes-p-eq49, else-bytes-p-eq49}

pub loop-i-init : goal.loop-i-init
loop-i-init c = all_owed _ _ _ refl

pub send_count-end-requires : goal.send_count-end-requires
send_count-end-requires c = record { tens = c.requires.tens; n_bound = omega (arith, c.requires.w_bound) }

pub loop-i-preserved : goal.loop-i-preserved
loop-i-preserved c =
    let l = c.loop-i in
    let a = c.args in
    elim c.if-bytes-p-eq49.branch [
      | then-bytes-p-eq49 w ↦
          rw (w.out-is, w.end-is)
          (less_owed (less_owed l.invariant (codes_set a.w l.i c.loop-i-test.true a.bytes.now a.p w.if-bytes-p-eq49.true)
          w.send_byte-end.ensures) refl (sent_as w.send_count-end.ensures (count_code _)))
      | else-bytes-p-eq49 w ↦
          rw (w.out-is, w.end-is)
          (owed_as l.invariant (ap codes_behind (bit_clear a.w l.i c.loop-i-test.true a.bytes.now a.p w.if-bytes-p-eq49.false)))
    ]

pub returns : goal.returns
unfolding codes_behind
returns c = none_owed c.loop-i.invariant (ap codes_behind (bits_over _ _ _ _ c.loop-i-test.false))
