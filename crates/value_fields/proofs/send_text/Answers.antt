-- `value_fields::send_text` meets its contract.
use mathlib.Core.Path.{ap}
use native.Mathlib.Omega.{arith}
use Rattle.commas.specs.rule.Csv.{field_bytes}
use Rattle.value_fields.specs.Values.{part_is}
use Rattle.sink.specs.Sent.{sent_as}
use Rattle.value_fields.proofs.send_text.Goals as goal

pub overflow_add-end : goal.overflow_add-end
overflow_add-end c = omega (arith, c.requires.1)

pub slice_bounds-send_field-count : goal.slice_bounds-send_field-count
slice_bounds-send_field-count c = omega (arith, c.requires.1)

pub slice_bounds-send_field-start : goal.slice_bounds-send_field-start
slice_bounds-send_field-start c = omega (arith, c.requires.1)

pub slice_bounds-send_field-end : goal.slice_bounds-send_field-end
slice_bounds-send_field-end c = omega (arith, c.requires.1)

pub returns : goal.returns
returns c =
    let args = c.args in
    sent_as c.send_field.ensures (ap field_bytes (part_is args.bytes.now args.p args.n))
