-- `field_values::take_guessed` meets its contract.
use Rattle.writes.specs.rule.Write.{lent_value}
use Rattle.field_values.specs.Steps.{wrote, guess_none, left_empty, single_number, quantity_number, text_is, text_left_is}
use Rattle.field_values.proofs.take_guessed.Goals as goal

pub returns-then-f-eq0 : goal.returns-then-f-eq0
unfolding lent_value
returns-then-f-eq0 c =
    let args = c.args in
    wrote (guess_none _ args.f.now c.if-f-eq0.true) (left_empty args.row args.f.now
    c.if-f-eq0.true) c.blank_row.ensures c.is_done.ensures

pub take_number-requires : goal.take_number-requires
take_number-requires c =
    let k = single_number c.args.row c.in-Single.is in record {
      tens = c.requires.tens;
      ready = c.requires.ready;
      fact = (c.if-f-eq0.false, k.0, k.1, k.2);
    }

pub take_set-requires : goal.take_set-requires
take_set-requires c = record {
  tens = c.requires.tens;
  ready = c.requires.ready;
  fact = (
    c.if-f-eq0.false,
    record { spread = _; is = c.in-Multiple.is },
  );
  list_len = c.requires.list_len;
}

pub take_number-requires-in-Quantity : goal.take_number-requires-in-Quantity
take_number-requires-in-Quantity c =
    let k = quantity_number c.args.row _ _ _ _ c.in-Quantity.is c.requires.ready in record {
      tens = c.requires.tens;
      ready = c.requires.ready;
      fact = (c.if-f-eq0.false, k.0, k.1, k.2);
    }

pub take_truth-requires : goal.take_truth-requires
take_truth-requires c = record {
  tens = c.requires.tens;
  ready = c.requires.ready;
  fact = (c.if-f-eq0.false, c.in-Logical.is);
}

pub returns-in-Character : goal.returns-in-Character
unfolding lent_value
returns-in-Character c =
    let args = c.args in
    wrote (text_is args.row args.f.now c.if-f-eq0.false c.in-Character.is) (text_left_is args.row
    args.f.now c.if-f-eq0.false c.in-Character.is) c.write_text.ensures
    c.is_done-in-Character.ensures
