-- `field_builds::build_bits` meets its contract.
use mathlib.Core.Path.{refl, sym}
use native.Mathlib.Omega.{arith}
use lib.Seq.{length-take-le}
use Rattle.field_values.specs.Quick.{ready_as, written_as}
use Rattle.field_builds.specs.Built.{built_none, built_some, write_kept, set_built, members_fit}
use Rattle.field_builds.proofs.build_bits.Goals as goal

pub returns-then-not-full : goal.returns-then-not-full
returns-then-not-full c = built_none refl

pub codes_in-a-requires : goal.codes_in-a-requires
codes_in-a-requires c = let k = ready_as c.requires.ready.1
    c.requires.ready.0 in (
      c.requires.each_legal.1,
      omega arith,
      k.kind.few,
      c.requires.each_legal.2,
    )

pub returns-then-n-eq0 : goal.returns-then-n-eq0
returns-then-n-eq0 c = built_none refl

pub returns-then-not-stops : goal.returns-then-not-stops
returns-then-not-stops c = built_none refl

pub slice_bounds-bits_full-end : goal.slice_bounds-bits_full-end
slice_bounds-bits_full-end c = let k = c.codes_in-a in
    omega (
      arith,
      k.auto.list,
      c.requires.each_legal.2,
      k.ensures.short,
    )

pub slice_bounds-bits_full-end-2 : goal.slice_bounds-bits_full-end-2
slice_bounds-bits_full-end-2 c =
    let k = c.codes_in-a in
    sym (length-take-le _ _ (omega (
      arith,
      k.auto.list,
      c.requires.each_legal.2,
      k.ensures.short,
    )))

pub bits_full-requires : goal.bits_full-requires
bits_full-requires c =
    let each = c.requires.each_legal.0 c.if-not-full.false in record {
      ready = ready_as c.requires.ready.1 c.requires.ready.0;
      each_fits = record {
        each = each;
        fits = members_fit _ _ _ c.codes_in-a.ensures c.if-n-eq0.false each;
      };
    }

pub returns-then-not-is_done : goal.returns-then-not-is_done
returns-then-not-is_done c = built_none
    (write_kept
    (written_as
    c.requires.ready.1 c.bits_full.ensures) c.is_done.ensures c.if-not-is_done.true)

pub overflow_add-result : goal.overflow_add-result
overflow_add-result c = let stop = c.stops.ensures
    c.if-not-stops.false in omega (arith, stop.within)

pub returns : goal.returns
returns c =
    let stop = c.stops.ensures c.if-not-stops.false in
    built_some (set_built stop c.is_done.ensures c.if-not-is_done.false (c.codes_in-a.ensures.reads
    c.if-n-eq0.false) (written_as c.requires.ready.1 c.bits_full.ensures))
