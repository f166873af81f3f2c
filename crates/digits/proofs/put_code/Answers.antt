-- `digits::put_code` meets its contract: the digits of the number's size.
use mathlib.Core.Path.{◌≡◌, ap, ◌∙◌}
use mir.Facts.{to_z-of_z}
use Rattle.cells.specs.rule.Cell.{signed_of}
use Rattle.fields.specs.rule.Number.{code_bytes}
use mir.Syntax.{w64}
use Rattle.digits.proofs.put_code.Goals as goal
use Rattle.digits.proofs.put_code.Goals.{After-signed_of}

-- the number is read back from its bits as it is
split : (c : After-signed_of) → c.signed_of.result ≡ signed_of c.args.z
split c = c.signed_of.ensures ∙ ap signed_of (to_z-of_z {w = w64} c.ranges.z)

pub put_digits-requires : goal.put_digits-requires
put_digits-requires c = let p = c.requires in record {
  tens = p.tens;
  n_bound = (rw (split c) p.z_bound.0, p.z_bound.1, p.z_bound.2);
}

pub returns : goal.returns
unfolding code_bytes
returns c = rw (← split (goal.at.returns c).After-signed_of) c.put_digits.ensures
