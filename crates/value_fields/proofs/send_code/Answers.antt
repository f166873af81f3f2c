-- `value_fields::send_code` meets its contract.
use mathlib.Core.Path.{◌≡◌, ap, ◌∙◌}
use mir.Facts.{to_z-of_z}
use Rattle.cells.specs.rule.Cell.{signed_of}
use Rattle.value_fields.proofs.Values.{code_count}
use Rattle.sink.specs.Sent.{sent_as}
use mir.Syntax.{w64}
use Rattle.value_fields.proofs.send_code.Goals as goal
use Rattle.value_fields.proofs.send_code.Goals.{After-signed_of-s}

-- the number is read back from its bits as it is
split : (c : After-signed_of-s) → c.signed_of-s.result ≡ signed_of c.args.z
split c = c.signed_of-s.ensures ∙ ap signed_of (to_z-of_z {w = w64} c.ranges.z)

pub send_count-requires : goal.send_count-requires
send_count-requires c = record {
  tens = c.requires.tens;
  n_bound = rw (split (goal.at.send_count-requires c).After-signed_of-s) c.requires.z_bound.0;
}

pub returns : goal.returns
returns c = sent_as c.send_count.ensures
    (code_count _ _ (split (goal.at.returns c).After-signed_of-s) c.requires.z_bound.1)
