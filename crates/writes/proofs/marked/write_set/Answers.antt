-- `writes::marked::write_set` meets its contract: each arm has what the kind is there.
use mathlib.Core.Path.{refl}
use Rattle.fields.specs.rule.Row.{fits_by}
use Rattle.writes.specs.rule.Write.{lent_value}
use Rattle.writes.proofs.Cases.{ready_as, written_as, other_kind_lem}
use Rattle.writes.proofs.marked.write_set.Goals as goal

pub write_multiple-requires : goal.write_multiple-requires
write_multiple-requires c =
    let p = c.requires in record {
      tens = p.tens;
      ready = ready_as c.in-Multiple.is p.ready;
    }

pub returns-in-Multiple : goal.returns-in-Multiple
returns-in-Multiple c = written_as c.in-Multiple.is c.write_multiple.ensures

pub returns-in-Single : goal.returns-in-Single
unfolding lent_value fits_by
returns-in-Single c = other_kind_lem c.in-Single.is refl

pub returns-in-Quantity : goal.returns-in-Quantity
unfolding lent_value fits_by
returns-in-Quantity c = other_kind_lem c.in-Quantity.is refl

pub returns-in-Character : goal.returns-in-Character
unfolding lent_value fits_by
returns-in-Character c = other_kind_lem c.in-Character.is refl

pub returns-in-Logical : goal.returns-in-Logical
unfolding lent_value fits_by
returns-in-Logical c = other_kind_lem c.in-Logical.is refl
