-- What a turn of `lister::list_all` asks and keeps, from what `list_on` says of its turn.
use mathlib.Core.Path.{refl, sym, ◌∙◌}
use native.Mathlib.Omega.{arith}
use lib.Seq.{length-take-le}
use Rattle.listing.specs.Places.{start_good, turn_room, on_inside, on_good, on_less, over_inside}
use Rattle.lister.proofs.list_all.Goals as goal

pub loop-place-init : goal.loop-place-init
loop-place-init g c = (refl, refl, refl, omega (arith, c.requires.list_len.2), start_good _)

pub list_on-requires : goal.list_on-requires
list_on-requires g c =
    let l = c.loop-place.invariant in
    let p = c.requires in record {
      ready = (record { tens = p.tens.0; tested = p.tens.1; list = l.0 ∙ p.list_len.0 }, l.1 ∙ p.list_len.1);
      found = (p.tens.2, omega (arith, p.tens.3), l.4, l.3);
    }

pub make_space-requires : goal.make_space-requires
make_space-requires g c =
    let e = c.list_on.ensures in (
      on_inside e c.in-On.is,
      omega (
        arith,
        turn_room e,
        c.loop-place.invariant.3,
      ),
    )

pub loop-place-preserved : goal.loop-place-preserved
loop-place-preserved g c =
    let l = c.loop-place.invariant in
    let e = c.list_on.ensures in (
      c.list_on.auto.list ∙ l.0,
      c.list_on.auto.scratch ∙ l.1,
      turn_room e ∙ l.2,
      c.in-Some.ensures,
      on_good e c.in-On.is,
    )

pub slice_bounds-write-end : goal.slice_bounds-write-end
slice_bounds-write-end g c = over_inside c.list_on.ensures
    c.in-Over.is

pub slice_bounds-write-end-in-Over : goal.slice_bounds-write-end-in-Over
slice_bounds-write-end-in-Over g c = sym (length-take-le _ _
    (over_inside c.list_on.ensures
    c.in-Over.is))

pub loop-place-smaller : goal.loop-place-smaller
loop-place-smaller g c = on_less
    c.list_on.ensures
    c.in-On.is

pub shape_of-list-in-None : goal.shape_of-list-in-None
shape_of-list-in-None g c = c.list_on.auto.list ∙ c.loop-place.invariant.0

pub shape_of-scratch-in-None : goal.shape_of-scratch-in-None
shape_of-scratch-in-None g c = c.list_on.auto.scratch ∙ c.loop-place.invariant.1

pub shape_of-out-in-None : goal.shape_of-out-in-None
shape_of-out-in-None g c = turn_room c.list_on.ensures
    ∙ c.loop-place.invariant.2

pub shape_of-list-in-Over : goal.shape_of-list-in-Over
shape_of-list-in-Over g c = c.list_on.auto.list
    ∙ c.loop-place.invariant.0

pub shape_of-scratch-in-Over : goal.shape_of-scratch-in-Over
shape_of-scratch-in-Over g c = c.list_on.auto.scratch
    ∙ c.loop-place.invariant.1

pub shape_of-out-in-Over : goal.shape_of-out-in-Over
shape_of-out-in-Over g c = turn_room c.list_on.ensures
    ∙ c.loop-place.invariant.2
