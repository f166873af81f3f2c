-- `field_values::quick::quick_bits` meets its contract.
use mathlib.Core.Path.{sym}
use native.Mathlib.Omega.{arith}
use lib.Seq.{length-take-le}
use Rattle.field_values.specs.Quick.{quick_none, ready_as, written_as, set_quick}
use Rattle.field_values.proofs.quick.quick_bits.Goals as goal

pub take_codes-n-requires : goal.take_codes-n-requires
take_codes-n-requires c = c.requires.fact.2

pub returns-then-n-eq0 : goal.returns-then-n-eq0
returns-then-n-eq0 c = quick_none _ _ _ _ _

pub slice_bounds-each_fits-end-2 : goal.slice_bounds-each_fits-end-2
slice_bounds-each_fits-end-2 c =
    let k = c.take_codes-n in
    sym (length-take-le _ _ (omega (
      arith,
      k.auto.list,
      c.requires.fact.2,
      k.ensures.few,
    )))

pub each_fits-requires : goal.each_fits-requires
each_fits-requires c =
    let h = ready_as c.requires.fact.1 c.requires.ready in record {
      line_facts = h.lines;
      w_bound = h.kind.few;
    }

pub returns-then-not-each_fits : goal.returns-then-not-each_fits
returns-then-not-each_fits c = quick_none _ _ _ _ _

pub slice_bounds-bits_full-end-2 : goal.slice_bounds-bits_full-end-2
slice_bounds-bits_full-end-2 c =
    let k = c.take_codes-n in
    sym (length-take-le _ _ (omega (
      arith,
      k.auto.list,
      c.requires.fact.2,
      k.ensures.few,
    )))

pub bits_full-requires : goal.bits_full-requires
bits_full-requires c = record {
  ready = ready_as
      c.requires.fact.1 c.requires.ready;
  each_fits = c.each_fits.ensures c.if-not-each_fits.false;
}

pub returns : goal.returns
returns c =
    set_quick c.requires.fact.0 c.requires.fact.1 c.take_codes-n.ensures c.if-n-eq0.false
    (written_as c.requires.fact.1 c.bits_full.ensures) c.is_done.ensures
