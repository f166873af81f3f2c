use mathlib.Core.Path.{refl, ap}
use native.Mathlib.Omega.{arith}
use Rattle.sink.specs.Sent.{all_owed, less_owed, none_owed, owed_as, sent_as}
use Rattle.value_fields.specs.rule.Values.{codes_behind}
use Rattle.value_fields.proofs.Legal.{count_code}
use Rattle.value_fields.specs.Few.{above_from, next_more, from_some, from_none}
use Rattle.value_fields.proofs.send_above.Goals as goal

pub loop-c-init : goal.loop-c-init
loop-c-init c = all_owed _ _ _ (ap codes_behind (above_from _ _ _ c.next_above-c.ensures))

pub loop-c-smaller : goal.loop-c-smaller
loop-c-smaller c =
    let h = c.loop-c-test.true in
    let m = next_more _ _ _ c.next_above-c-in-loop-c.ensures h in
    omega arith

pub loop-c-preserved : goal.loop-c-preserved
loop-c-preserved c =
    let l = c.loop-c in
    owed_as (less_owed (less_owed l.invariant (from_some _ _ c.loop-c-test.true) c.send_byte-end.ensures) refl
    (sent_as c.send_count-end.ensures (count_code _))) (ap codes_behind (above_from _ _ _ c.next_above-c-in-loop-c.ensures))

pub returns : goal.returns
returns c = none_owed c.loop-c.invariant (from_none _ _ c.loop-c-test.false)

pub next_above-c-requires : goal.next_above-c-requires
next_above-c-requires c = c.requires.1

pub send_count-end-requires : goal.send_count-end-requires
send_count-end-requires c = record {
  tens = c.requires.0;
  n_bound = omega arith;
}

pub next_above-c-requires-in-loop-c : goal.next_above-c-requires-in-loop-c
next_above-c-requires-in-loop-c c = c.requires.1

pub shape_of-out : goal.shape_of-out
shape_of-out c = c.loop-c.invariant.same_room
