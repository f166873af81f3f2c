-- `value_fields::send_single` meets its contract: the digits of the last w bytes of the position.
use mathlib.Core.Path.{ap, ◌∙◌}
use mathlib.Core.List.{List}
use Prim.Native.Nat.{ℕ}
use Rattle.fields.specs.rule.Number.{unspaced}
use Rattle.readings.proofs.Laws.{last_bytes}
use Rattle.sink.specs.Sent.{sent_as}
use Rattle.bare_digits.specs.Bare.{unled}
use Rattle.value_fields.proofs.Bare.{single_bare}
use Rattle.value_fields.proofs.send_single.Goals as goal

pub returns : goal.returns
returns c ok g =
    let a = c.args in
    let p = c.requires in
    sent_as c.send_code.ensures
    (ap (λ (x : List ℕ). unled 48 (unspaced x)) (last_bytes a.bytes.now a.e a.w p.w_le_e.0 p.w_le_e.1) ∙ single_bare ok _ p.told g)
