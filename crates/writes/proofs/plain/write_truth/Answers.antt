-- `writes::plain::write_truth` meets its contract: each arm has what the kind is there.
use mathlib.Core.Path.{refl}
use Rattle.fields.specs.rule.Row.{fits_by, bytes_by, places_by}
use Rattle.fields.specs.rule.Field.{truth_bytes}
use Rattle.writes.specs.rule.Write.{lent_value}
use Rattle.writes.proofs.Cases.{accepted, written_as, other_kind_lem}
use Rattle.writes.proofs.plain.write_truth.Goals as goal

pub returns-in-Logical : goal.returns-in-Logical
unfolding lent_value fits_by places_by bytes_by truth_bytes
returns-in-Logical c = written_as c.in-Logical.is (accepted refl (rw c.bit_of.ensures))

pub returns-in-Single : goal.returns-in-Single
unfolding lent_value fits_by
returns-in-Single c = other_kind_lem c.in-Single.is refl

pub returns-in-Multiple : goal.returns-in-Multiple
unfolding lent_value fits_by
returns-in-Multiple c = other_kind_lem c.in-Multiple.is refl

pub returns-in-Quantity : goal.returns-in-Quantity
unfolding lent_value fits_by
returns-in-Quantity c = other_kind_lem c.in-Quantity.is refl

pub returns-in-Character : goal.returns-in-Character
unfolding lent_value fits_by
returns-in-Character c = other_kind_lem c.in-Character.is refl
