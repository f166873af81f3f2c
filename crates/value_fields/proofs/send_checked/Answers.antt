-- `value_fields::send_checked` meets its contract: none, or the categories that are set.
use mathlib.Core.Path.{sym, ap, ◌∙◌}
use native.Mathlib.Omega.{arith}
use Rattle.sink.specs.Sent.{sent_as, then}
use Rattle.value_fields.specs.rule.Values.{set_text}
use Rattle.value_fields.specs.Legal.{bits_over, text_set, below_of}
use Rattle.value_fields.proofs.Legal.{count_code}
use Rattle.value_fields.proofs.send_checked.Goals as goal

pub returns-then-c-w : goal.returns-then-c-w
unfolding set_text
returns-then-c-w c =
    let a = c.args in
    let f = c.first_set-c.ensures in
    let z = f.same ∙ bits_over a.w a.bytes.now a.p c.first_set-c.result
    (omega (arith, c.if-c-w.true)) in
    sent_as c.send_bytes.ensures (ap set_text (sym z))

pub send_set_bits-requires : goal.send_set_bits-requires
send_set_bits-requires c =
    let p = c.requires in
    let l = below_of _ _ c.first_set-c.ensures.few c.if-c-w.false in record {
      tens = p.tens;
      w_bound = (p.w_bound.0, p.w_bound.1, omega (arith, l));
    }

pub returns : goal.returns
returns c =
    let a = c.args in
    let f = c.first_set-c.ensures in
    let n = c.first_set-c.result in
    let l = below_of n a.w f.few c.if-c-w.false in
    sent_as (then (sent_as c.send_count-end.ensures (count_code _)) c.send_set_bits.ensures)
    (text_set a.w n l a.bytes.now a.p (f.set l) ∙ ap set_text (sym f.same))

pub overflow_add-next : goal.overflow_add-next
overflow_add-next c = omega (arith, c.first_set-c.ensures.few, c.requires.w_bound)

pub send_count-end-requires : goal.send_count-end-requires
send_count-end-requires c = record {
  tens = c.requires.tens;
  n_bound = omega (arith, c.first_set-c.ensures.few, c.requires.w_bound);
}
