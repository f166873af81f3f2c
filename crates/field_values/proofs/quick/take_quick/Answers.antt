-- `field_values::quick::take_quick` meets its contract.
use mathlib.Core.Path.{refl}
use Rattle.writes.specs.rule.Write.{lent_value}
use Rattle.field_values.specs.Steps.{is_done, wrote, guess_none, left_empty, text_is, text_left_is}
use Rattle.field_values.specs.Quick.{quick_took}
use Rattle.field_values.proofs.quick.take_quick.Goals as goal

pub blank_run-requires : goal.blank_run-requires
blank_run-requires c = c.requires.ready

pub returns-then-f-eq0 : goal.returns-then-f-eq0
unfolding lent_value is_done
returns-then-f-eq0 c =
    let b = c.blank_run.ensures in
    let a = c.args in
    let e = c.if-f-eq0.true in
    record { taken = λ w. wrote (guess_none _ a.f.now e) (left_empty a.row a.f.now e) (b.0 w) refl; kept = b.1 }

pub quick_code-requires : goal.quick_code-requires
quick_code-requires c = record {
  tens = c.requires.tens;
  ready = c.requires.ready;
  fact = (c.if-f-eq0.false, c.in-Single.is);
}

pub quick_set-requires : goal.quick_set-requires
quick_set-requires c = record {
  tens = c.requires.tens;
  ready = c.requires.ready;
  fact = (c.if-f-eq0.false, c.in-Multiple.is, c.requires.list_len);
}

pub quick_amount-requires : goal.quick_amount-requires
quick_amount-requires c = record {
  tens = c.requires.tens;
  ready = c.requires.ready;
  fact = (c.if-f-eq0.false, c.in-Quantity.is);
}

pub write_text-requires : goal.write_text-requires
write_text-requires c = c.requires.ready

pub take_truth-requires : goal.take_truth-requires
take_truth-requires c = record {
  tens = c.requires.tens;
  ready = c.requires.ready;
  fact = (c.if-f-eq0.false, c.in-Logical.is);
}

pub returns-in-Single : goal.returns-in-Single
returns-in-Single c = c.quick_code.ensures

pub returns-in-Multiple : goal.returns-in-Multiple
returns-in-Multiple c = c.quick_set.ensures

pub returns-in-Quantity : goal.returns-in-Quantity
returns-in-Quantity c = c.quick_amount.ensures

pub returns-in-Character : goal.returns-in-Character
unfolding lent_value
returns-in-Character c =
    let a = c.args in
    let n = c.if-f-eq0.false in
    let k = c.in-Character.is in
    quick_took (wrote (text_is a.row a.f.now n k) (text_left_is a.row a.f.now n k)
    c.write_text.ensures c.is_done.ensures)

pub returns-in-Logical : goal.returns-in-Logical
returns-in-Logical c = quick_took c.take_truth.ensures
