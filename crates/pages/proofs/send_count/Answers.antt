use native.Mathlib.Omega.{arith}
use Rattle.sink.specs.Sent.{sent_as}
use Rattle.ascii.specs.Tens.{digits_few}
use Rattle.clean_text.specs.rule.Clean.{plain_digits}
use Rattle.pages.proofs.send_count.Goals as goal

pub send_digits-requires : goal.send_digits-requires
send_digits-requires c = record {
  tens = c.requires.tens;
  n_bound = (c.requires.n_bound, omega (arith, digits_few c.args.n, c.digit_count-w.ensures));
}

pub returns : goal.returns
unfolding plain_digits
returns c = sent_as c.send_digits.ensures (rw c.digit_count-w.ensures)
