-- `value_fields::send_number` meets its contract.
use mathlib.Core.Path.{◌≡◌, ap, ◌∙◌}
use mir.Facts.{to_z-of_z}
use Rattle.cells.specs.rule.Cell.{signed_of}
use Rattle.value_fields.proofs.Values.{number_minus, number_amount}
use Rattle.sink.specs.Sent.{sent_as, then}
use mir.Syntax.{w64}
use Rattle.value_fields.proofs.send_number.Goals as goal
use Rattle.value_fields.proofs.send_number.Goals.{After-signed_of-s}

-- the number is read back from its bits as it is
split : (c : After-signed_of-s) → c.signed_of-s.result ≡ signed_of c.args.z
split c = c.signed_of-s.ensures ∙ ap signed_of (to_z-of_z {w = w64} c.ranges.z)

pub send_amount-requires : goal.send_amount-requires
send_amount-requires c = record {
  tens = c.requires.tens;
  n_bound = (
    rw (split (goal.at.send_amount-requires c).After-signed_of-s) c.requires.z_bound.0,
    c.requires.z_bound.1,
  );
}

pub returns-then-s : goal.returns-then-s
returns-then-s c =
    sent_as (then c.send_byte-end.ensures c.send_amount.ensures)
    (number_minus _ _ _ (split (goal.at.returns-then-s c).After-signed_of-s) c.if-s.true)

pub send_amount-requires-2 : goal.send_amount-requires-2
send_amount-requires-2 c = record {
  tens = c.requires.tens;
  n_bound = (rw (split (goal.at.send_amount-requires-2 c).After-signed_of-s) c.requires.z_bound.0, c.requires.z_bound.1);
}

pub returns : goal.returns
returns c = sent_as c.send_amount-2.ensures
    (number_amount _ _ _ (split (goal.at.returns c).After-signed_of-s) c.if-s.false)
