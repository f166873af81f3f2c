-- `value_fields::send_words` meets its contract: the bytes up to the spaces at the end.
use mathlib.Core.Path.{sym, ap, ◌∙◌}
use native.Mathlib.Omega.{arith}
use Prim.Native.Nat.{◌≤◌}
use lib.ListN.{length, drop, length-take}
use Rattle.places.specs.Laws.{pick_run}
use Rattle.commas.specs.rule.Csv.{field_bytes}
use Rattle.sink.specs.Sent.{sent_as}
use Rattle.value_fields.specs.Values.{part_is}
use Rattle.value_fields.specs.Legal.{words_kept}
use Rattle.value_fields.proofs.Legal.{words_field}
use Rattle.value_fields.proofs.send_words.Goals as goal

pub returns : goal.returns
returns c =
    let a = c.args in
    let p = c.requires in
    let n = c.kept_bytes-n.result in
    let k = c.kept_bytes-n.ensures in
    let l : n ≤ a.w = omega (
      arith,
      k.0,
      ap length (part_is a.bytes.now a.p a.w),
      length-take a.w (drop a.p a.bytes.now),
    ) in
    let e = part_is a.bytes.now a.p a.w ∙ sym (pick_run a.bytes.now a.p a.w p.w_bound.1) in
    let m = rw e at k in
    sent_as c.send_text.ensures (ap field_bytes (words_kept a.bytes.now a.p a.w n p.w_bound.1 l
    ∙ words_field _ n m.1 m.2 p.w_value))
