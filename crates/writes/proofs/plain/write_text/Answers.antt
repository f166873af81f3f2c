-- `writes::plain::write_text` meets its contract: each arm has what the kind is there.
use mathlib.Core.Path.{refl, sym, ◌∙◌}
use native.Mathlib.Omega.{arith}
use Rattle.fields.specs.rule.Row.{fits_by, bytes_by, places_by}
use Rattle.fieldlaws.specs.TextLaws.{fitting}
use Rattle.writes.specs.rule.Write.{lent_value}
use Rattle.writes.proofs.Cases.{accepted, illegal, legal_fits, legal_not, ready_as, written_as, other_kind_lem}
use Rattle.writes.proofs.plain.write_text.Goals as goal

pub returns-then-not-text_fits : goal.returns-then-not-text_fits
unfolding lent_value fits_by
returns-then-not-text_fits c = written_as c.in-Character.is
    (illegal (legal_not (sym c.text_fits.ensures ∙ c.if-not-text_fits.true)))

pub put_text-requires : goal.put_text-requires
put_text-requires c =
    let h = ready_as c.in-Character.is c.requires in (
      (fitting c.args.row.width c.args.text.now (sym c.text_fits.ensures ∙ c.if-not-text_fits.false)).few,
      omega (arith, h.from_one, h.kind.room, h.inside),
    )

pub returns-else-not-text_fits : goal.returns-else-not-text_fits
unfolding lent_value fits_by places_by bytes_by
returns-else-not-text_fits c =
    written_as c.in-Character.is (accepted
    (legal_fits (sym c.text_fits.ensures ∙ c.if-not-text_fits.false))
    c.put_text.ensures)

pub returns-in-Single : goal.returns-in-Single
unfolding lent_value fits_by
returns-in-Single c = other_kind_lem c.in-Single.is refl

pub returns-in-Multiple : goal.returns-in-Multiple
unfolding lent_value fits_by
returns-in-Multiple c = other_kind_lem c.in-Multiple.is refl

pub returns-in-Quantity : goal.returns-in-Quantity
unfolding lent_value fits_by
returns-in-Quantity c = other_kind_lem c.in-Quantity.is refl

pub returns-in-Logical : goal.returns-in-Logical
unfolding lent_value fits_by
returns-in-Logical c = other_kind_lem c.in-Logical.is refl
