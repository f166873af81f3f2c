-- `value_fields::send_value` meets its contract.
use mathlib.Core.Path.{◌≡◌, ap, ◌∙◌}
use borrow.Author.Rules.{rules}
use mir.Syntax.{w64}
use mir.Val.{to_z, of_z}
use Rattle.lines.specs.Lines.{Listable, number_listed, set_listed, text_listed}
use Rattle.value_fields.specs.rule.Values.{export_number}
use Rattle.value_fields.proofs.Values.{missing_field, number_field, set_field, text_field_lem, truth_field_lem}
use Rattle.sink.specs.Sent.{sent_as, nothing_sent}
use Rattle.value_fields.proofs.send_value.Goals as goal
use Rattle.value_fields.proofs.send_value.Goals.{In-Number}

-- the number is read back from its bits as it is
back : (c : In-Number) → to_z w64 (of_z w64 c.in-Number.z) ≡ c.in-Number.z
back c = search rules

pub send_number-requires : goal.send_number-requires
send_number-requires c = record {
  tens = c.requires.tens;
  z_bound = (
    rw (back (goal.at.send_number-requires c).In-Number) (number_listed _ _ c.requires.listable.0 c.in-Number.is),
    c.requires.listable.1,
  );
}

pub send_set-requires : goal.send_set-requires
send_set-requires c = record {
  tens = c.requires.tens;
  codes = set_listed _ _ c.requires.listable.0 c.in-Set.is;
}

pub send_text-requires : goal.send_text-requires
send_text-requires c = text_listed _ _ c.requires.listable.0 c.in-Text.is

pub returns-in-Missing : goal.returns-in-Missing
returns-in-Missing c = sent_as (nothing_sent _ _ _) (missing_field _ _ _ _ c.in-Missing.is)

pub returns-in-Number : goal.returns-in-Number
returns-in-Number c = sent_as c.send_number.ensures
    (ap (export_number _) (back (goal.at.returns-in-Number c).In-Number)
    ∙ number_field _ _ _ _ c.in-Number.is)

pub returns-in-Set : goal.returns-in-Set
returns-in-Set c = sent_as c.send_set.ensures (set_field _ _ _ _ c.in-Set.is)

pub returns-in-Text : goal.returns-in-Text
returns-in-Text c = sent_as c.send_text.ensures (text_field_lem _ _ _ _ c.in-Text.is)

pub returns-in-Truth : goal.returns-in-Truth
returns-in-Truth c = sent_as (rw c.bit_of.ensures at c.send_byte.ensures)
    (truth_field_lem _ _ _ _ c.in-Truth.is)

pub returns-in-BadTable : goal.returns-in-BadTable
unfolding Listable
returns-in-BadTable c = absurd (rw c.in-BadTable.is at c.requires.listable.0)

pub returns-in-NoRow : goal.returns-in-NoRow
unfolding Listable
returns-in-NoRow c = absurd (rw c.in-NoRow.is at c.requires.listable.0)

pub returns-in-ShortRecord : goal.returns-in-ShortRecord
unfolding Listable
returns-in-ShortRecord c = absurd (rw c.in-ShortRecord.is at c.requires.listable.0)

pub returns-in-Illegal : goal.returns-in-Illegal
unfolding Listable
returns-in-Illegal c = absurd (rw c.in-Illegal.is at c.requires.listable.0)

pub returns-in-ShortList : goal.returns-in-ShortList
unfolding Listable
returns-in-ShortList c = absurd (rw c.in-ShortList.is at c.requires.listable.0)
