-- `field_builds::build_text` meets its contract.
use mathlib.Core.Path.{refl}
use native.Mathlib.Omega.{arith}
use Rattle.field_builds.specs.Built.{built_none, built_some, write_kept, text_built}
use Rattle.field_builds.proofs.build_text.Goals as goal

pub bare_to-to-requires : goal.bare_to-to-requires
bare_to-to-requires c = c.requires.1

pub returns-then-not-stops : goal.returns-then-not-stops
returns-then-not-stops c = built_none refl

pub slice_bounds-write_text-count : goal.slice_bounds-write_text-count
slice_bounds-write_text-count c = omega (arith, c.bare_to-to.ensures.on)

pub slice_bounds-write_text-start : goal.slice_bounds-write_text-start
slice_bounds-write_text-start c = omega (arith, c.bare_to-to.ensures.on, c.bare_to-to.ensures.within)

pub slice_bounds-write_text-end : goal.slice_bounds-write_text-end
slice_bounds-write_text-end c = omega (arith, c.bare_to-to.ensures.on, c.bare_to-to.ensures.within)

pub write_text-requires : goal.write_text-requires
write_text-requires c = c.requires.0

pub returns-then-not-is_done : goal.returns-then-not-is_done
returns-then-not-is_done c = built_none (write_kept c.write_text.ensures c.is_done.ensures
    c.if-not-is_done.true)

pub overflow_add-result : goal.overflow_add-result
overflow_add-result c = let stop = c.stops.ensures
    c.if-not-stops.false in omega (arith, stop.within)

pub returns : goal.returns
returns c =
    let stop = c.stops.ensures
    c.if-not-stops.false in
    built_some (text_built stop c.is_done.ensures c.if-not-is_done.false
    c.bare_to-to.ensures c.write_text.ensures)
