-- `field_values::take_set` meets its contract.
use mathlib.Core.Path.{sym, ◌∙◌}
use native.Mathlib.Omega.{arith}
use lib.Seq.{length-take-le}
use Rattle.writes.specs.rule.Write.{lent_value}
use Rattle.field_values.specs.Coded.{coded_guess, coded_left}
use Rattle.field_values.specs.Steps.{set_is, set_left_is, wrote}
use Rattle.field_values.proofs.take_set.Goals as goal

pub take_codes-n-requires : goal.take_codes-n-requires
take_codes-n-requires c = c.requires.list_len.0

pub take_other-requires : goal.take_other-requires
take_other-requires c =
    let p = c.requires in record {
      tens = p.tens;
      ready = p.ready;
      fact = p.fact;
      list_len = (c.take_codes-n.auto.list ∙ p.list_len.0, p.list_len.1);
    }

pub returns-then-n-eq0 : goal.returns-then-n-eq0
returns-then-n-eq0 c = c.take_other.ensures

pub slice_bounds-write_row-end : goal.slice_bounds-write_row-end
slice_bounds-write_row-end c = omega (
  arith,
  c.take_codes-n.auto.list,
  c.requires.list_len.0,
  c.take_codes-n.ensures.few,
)

pub slice_bounds-write_row-end-2 : goal.slice_bounds-write_row-end-2
slice_bounds-write_row-end-2 c = sym (length-take-le _ _
    (omega (
      arith,
      c.take_codes-n.auto.list,
      c.requires.list_len.0,
      c.take_codes-n.ensures.few,
    )))

pub returns : goal.returns
unfolding lent_value
returns c =
    let k = c.take_codes-n.ensures in
    let n = c.if-n-eq0.false in
    let a = c.args in
    let p = c.requires in
    wrote (set_is a.row a.f.now p.fact.0 p.fact.1.is (coded_guess k n))
    (set_left_is a.row a.f.now p.fact.0 p.fact.1.is (coded_guess k n) (sym (k.text n)) (coded_left k n))
    c.write_row.ensures c.is_done.ensures
