-- `value_fields::send_quantity` meets its contract: what the last w bytes of the position say.
use native.Mathlib.Omega.{arith}
use lib.ListN.{length-take}
use Rattle.readings.proofs.Laws.{last_bytes}
use Rattle.value_fields.proofs.send_quantity.Goals as goal

pub send_signed-requires : goal.send_signed-requires
send_signed-requires c =
    let a = c.args in
    let p = c.requires in
    let q = last_bytes a.bytes.now a.e a.w p.w_bound.1 p.w_bound.2 in record {
      tens = p.tens;
      format_facts = (p.format_facts.0, simp length-take (omega arith));
      told = (rw q p.format_facts.1, rw q p.format_facts.2);
    }

pub returns : goal.returns
returns c ok g =
    let a = c.args in
    let p = c.requires in
    let q = last_bytes a.bytes.now a.e a.w p.w_bound.1 p.w_bound.2 in
    rw q at (c.send_signed.ensures ok (rw q g))
