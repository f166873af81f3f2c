-- `value_fields::send_set` meets its contract.
use mathlib.Core.Path.{ap, ◌∙◌}
use native.Mathlib.Omega.{arith}
use borrow.Author.Rules.{sfits_of}
use mir.Facts.{to_z-of_z}
use Rattle.value_fields.specs.rule.Values.{export_number}
use Rattle.value_fields.specs.Values.{codes_first, codes_none, some_of_lem}
use Rattle.sink.specs.Sent.{sent_as, then}
use mir.Syntax.{w64}
use Rattle.value_fields.proofs.send_set.Goals as goal

pub returns-then-n-eq0 : goal.returns-then-n-eq0
returns-then-n-eq0 c = sent_as c.send_bytes.ensures (codes_none _ _ c.if-n-eq0.true)

pub send_code-end-requires : goal.send_code-end-requires
send_code-end-requires c = record {
  tens = c.requires.tens;
  z_bound = (
    rw (to_z-of_z (sfits_of c.number.type_inv), c.number.ensures)
        (let f = c.requires.codes.few 0 (some_of_lem _ c.if-n-eq0.false) in omega arith),
    rw (to_z-of_z (sfits_of c.number.type_inv), c.number.ensures)
        (c.requires.codes.plain 0 (some_of_lem _ c.if-n-eq0.false)),
  );
}

pub send_others-requires : goal.send_others-requires
send_others-requires c = record {
  tens = c.requires.tens;
  codes = (
    c.requires.codes,
    some_of_lem _ c.if-n-eq0.false,
  );
}

pub returns : goal.returns
returns c =
    sent_as (then (sent_as c.send_code-end.ensures
    (ap (export_number 0) (to_z-of_z {w = w64} (sfits_of c.number.type_inv) ∙ c.number.ensures))) c.send_others.ensures)
    (codes_first _ _ (some_of_lem _ c.if-n-eq0.false) c.requires.codes.many)
