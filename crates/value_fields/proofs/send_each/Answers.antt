-- `value_fields::send_each` meets its contract: missing, none, or the categories that are set.
use native.Mathlib.Omega.{arith}
use Rattle.sink.specs.Sent.{sent_as, nothing_sent}
use Rattle.value_fields.proofs.Legal.{each_missing, each_members}
use Rattle.value_fields.proofs.send_each.Goals as goal

pub returns-then-bytes-p-eq32 : goal.returns-then-bytes-p-eq32
returns-then-bytes-p-eq32 c =
    let a = c.args in
    let p = c.requires in
    sent_as (nothing_sent _ _ _) (each_missing a.w p.le_w.0 a.bytes.now a.p p.p_value c.if-bytes-p-eq32.true)

pub send_roomy-requires : goal.send_roomy-requires
send_roomy-requires c =
    let p = c.requires in record {
      tens = p.tens;
      w_bound = (p.le_w.1, p.le_w.2);
      le_at = c.is_roomy.ensures c.if-is_roomy.true;
    }

pub returns-then-is_roomy : goal.returns-then-is_roomy
returns-then-is_roomy c =
    let a = c.args in
    let p = c.requires in
    sent_as c.send_roomy.ensures (each_members a.w p.le_w.0 a.bytes.now a.p p.p_value c.if-bytes-p-eq32.false)

pub returns : goal.returns
returns c =
    let a = c.args in
    let p = c.requires in
    sent_as c.send_checked.ensures (each_members a.w p.le_w.0 a.bytes.now a.p p.p_value c.if-bytes-p-eq32.false)

pub bounds-bytes-p : goal.bounds-bytes-p
bounds-bytes-p c = omega (arith, c.requires.le_w)

pub send_checked-requires : goal.send_checked-requires
send_checked-requires c = record {
  tens = c.requires.tens;
  w_bound = (
    c.requires.le_w.1,
    c.requires.le_w.2,
  );
}
