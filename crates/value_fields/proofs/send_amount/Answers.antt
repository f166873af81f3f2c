-- `value_fields::send_amount` meets its contract.
use native.Mathlib.Omega.{arith}
use native.Mathlib.Nat.{div-le_self}
use Rattle.value_fields.proofs.Values.{amount_none, amount_parts}
use Rattle.widths.specs.Width.{ten_some}
use Rattle.sink.specs.Sent.{sent_as, then}
use Rattle.value_fields.proofs.send_amount.Goals as goal

pub send_count-requires : goal.send_count-requires
send_count-requires c = record {
  tens = c.requires.tens;
  n_bound = c.requires.n_bound.0;
}

pub returns-then-k-eq0 : goal.returns-then-k-eq0
returns-then-k-eq0 c = sent_as c.send_count.ensures (amount_none _ _ c.if-k-eq0.true)

pub power-requires : goal.power-requires
power-requires c = record {
  tens = c.requires.tens;
  k_bound = omega (arith, c.requires.n_bound.1);
}

pub nonzero_div-whole : goal.nonzero_div-whole
nonzero_div-whole c = rw c.power.ensures (ten_some c.args.k)

pub send_count-end-requires : goal.send_count-end-requires
send_count-end-requires c = record {
  tens = c.requires.tens;
  n_bound = omega (
    arith,
    div-le_self c.args.n c.power.result,
    c.requires.n_bound.0,
  );
}

pub send_digits-requires : goal.send_digits-requires
send_digits-requires c =
    let p = c.requires in record {
      tens = p.tens;
      n_bound = (p.n_bound.0, omega (arith, p.n_bound.1));
    }

pub returns : goal.returns
returns c =
    sent_as (then c.send_count-end.ensures (then c.send_byte-point.ensures c.send_digits.ensures))
    (rw c.power.ensures (amount_parts _ _ c.if-k-eq0.false))
