-- `value_fields::send_read` meets its contract.
use mathlib.Core.Path.{sym, ◌∙◌}
use Rattle.listing.specs.RowLaws.{row_stands, row_ready, row_listable}
use Rattle.value_fields.proofs.Rows.{row_empty, row_field_lem}
use Rattle.value_fields.proofs.Rows.{row_decimals}
use Rattle.sink.specs.Sent.{sent_as, nothing_sent}
use Rattle.value_fields.proofs.send_read.Goals as goal

pub read-row-requires : goal.read-row-requires
read-row-requires c = row_stands c.requires.ready.tested c.requires.i_lt_rows.0

pub read_row-a-requires : goal.read_row-a-requires
read_row-a-requires c = row_ready c.requires.ready.tested c.requires.i_lt_rows.0
    c.read-row.ensures c.args.bytes.now c.requires.i_lt_rows.1

pub returns-then-is_illegal : goal.returns-then-is_illegal
returns-then-is_illegal c =
    sent_as (nothing_sent _ _ _) (row_empty c.requires.ready.tested c.requires.i_lt_rows.0 c.read-row.ensures _
    c.requires.i_lt_rows.1 c.read_row-a.ensures (sym c.is_illegal.ensures ∙ c.if-is_illegal.true))

pub send_value-requires : goal.send_value-requires
send_value-requires c = record {
  tens = c.requires.ready.tens;
  listable = (
    row_listable c.requires.ready.tested c.requires.i_lt_rows.0 c.read-row.ensures _ c.requires.i_lt_rows.1
        c.read_row-a.ensures c.requires.ready.list
        (sym c.is_illegal.ensures ∙ c.if-is_illegal.false),
    rw c.decimals.ensures (row_decimals c.requires.ready.tested c.requires.i_lt_rows.0 c.read-row.ensures),
  );
}

pub returns : goal.returns
returns c =
    sent_as (rw c.decimals.ensures at c.send_value.ensures) (row_field_lem c.requires.ready.tested
    c.requires.i_lt_rows.0 c.read-row.ensures _ c.requires.i_lt_rows.1 c.read_row-a.ensures
    c.requires.ready.list (sym c.is_illegal.ensures ∙ c.if-is_illegal.false))
