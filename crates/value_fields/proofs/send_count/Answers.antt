-- `value_fields::send_count` meets its contract: in as many digits as it has, few of them told at once.
use native.Mathlib.Omega.{arith}
use Rattle.ascii.specs.Tens.{digits_few}
use Rattle.lines.specs.rule.Text.{numeral}
use Rattle.sink.specs.Sent.{sent_as}
use Rattle.value_fields.specs.Numeral.{digits_one, digits_two, digits_three}
use Rattle.value_fields.proofs.send_count.Goals as goal

pub returns-then-n-lt10 : goal.returns-then-n-lt10
unfolding numeral
returns-then-n-lt10 c = sent_as c.send_digits.ensures (rw (digits_one _ c.if-n-lt10.true))

pub returns-then-n-lt100 : goal.returns-then-n-lt100
unfolding numeral
returns-then-n-lt100 c = sent_as c.send_digits-then-n-lt100.ensures
    (rw (digits_two _ (omega (arith, c.if-n-lt10.false))
    c.if-n-lt100.true))

pub returns-then-n-lt1000 : goal.returns-then-n-lt1000
unfolding numeral
returns-then-n-lt1000 c = sent_as c.send_digits-then-n-lt1000.ensures
    (rw (digits_three _ (omega (arith, c.if-n-lt100.false))
    c.if-n-lt1000.true))

pub send_digits-requires-2 : goal.send_digits-requires-2
send_digits-requires-2 c = record {
  tens = c.requires.tens;
  n_bound = (
    c.requires.n_bound,
    omega (arith, digits_few c.args.n, c.digit_count-w.ensures),
  );
}

pub returns : goal.returns
unfolding numeral
returns c = sent_as c.send_digits-2.ensures (rw c.digit_count-w.ensures)

pub send_digits-requires : goal.send_digits-requires
send_digits-requires c = record {
  tens = c.requires.tens;
  n_bound = (c.requires.n_bound, omega arith);
}

pub send_digits-requires-then-n-lt100 : goal.send_digits-requires-then-n-lt100
send_digits-requires-then-n-lt100 c = record {
  tens = c.requires.tens;
  n_bound = (c.requires.n_bound, omega arith);
}

pub send_digits-requires-then-n-lt1000 : goal.send_digits-requires-then-n-lt1000
send_digits-requires-then-n-lt1000 c = record {
  tens = c.requires.tens;
  n_bound = (c.requires.n_bound, omega arith);
}
