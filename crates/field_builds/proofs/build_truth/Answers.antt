-- `field_builds::build_truth` meets its contract.
use mathlib.Core.Path.{refl}
use native.Mathlib.Omega.{arith}
use Rattle.field_builds.specs.Built.{built_none, built_some, write_kept, truth_built}
use Rattle.field_builds.proofs.build_truth.Goals as goal

pub returns-then-d-at : goal.returns-then-d-at
returns-then-d-at c = built_none refl

pub returns-then-b-lt48 : goal.returns-then-b-lt48
returns-then-b-lt48 c = built_none refl

pub returns-then-b-gt49 : goal.returns-then-b-gt49
returns-then-b-gt49 c = built_none refl

pub returns-then-not-stops : goal.returns-then-not-stops
returns-then-not-stops c = built_none refl

pub write_truth-requires : goal.write_truth-requires
write_truth-requires c = c.requires

pub returns-then-not-is_done : goal.returns-then-not-is_done
returns-then-not-is_done c = built_none (write_kept c.write_truth.ensures c.is_done.ensures
    c.if-not-is_done.true)

pub overflow_add-result : goal.overflow_add-result
overflow_add-result c = let stop = c.stops.ensures
    c.if-not-stops.false in omega (arith, stop.within)

pub returns : goal.returns
returns c =
    let stop = c.stops.ensures
    c.if-not-stops.false in
    built_some (truth_built stop c.is_done.ensures c.if-not-is_done.false
    (omega (arith, c.if-d-at.false))
    (omega (arith, c.if-b-lt48.false))
    (omega (arith, c.if-b-gt49.false)) refl
    c.write_truth.ensures)
