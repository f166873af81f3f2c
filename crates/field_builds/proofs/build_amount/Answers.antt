-- `field_builds::build_amount` meets its contract.
use mathlib.Core.Path.{◌≡◌, refl}
use native.Mathlib.Omega.{arith}
use borrow.Author.Rules.{rules}
use mir.Syntax.{w64}
use mir.Val.{to_z, of_z}
use Rattle.field_values.specs.Steps.{quantity_number}
use Rattle.field_values.specs.Quick.{ready_as, written_as}
use Rattle.field_builds.specs.Built.{built_none, built_some, write_kept, number_built}
use Rattle.field_builds.proofs.build_amount.Goals as goal
use Rattle.field_builds.proofs.build_amount.Goals.{After-struct_told-1}

-- the number is read back from its bits as it is
back : (c : After-struct_told-1) → to_z w64 (of_z w64 c.number_from-a.result.z) ≡ c.number_from-a.result.z
back c = search rules

pub returns-then-to-at : goal.returns-then-to-at
returns-then-to-at c = built_none refl

pub returns-then-not-stops : goal.returns-then-not-stops
returns-then-not-stops c = built_none refl

pub write_amount-requires : goal.write_amount-requires
write_amount-requires c = record {
  tens = c.requires.tens;
  ready = ready_as c.requires.ready.1 c.requires.ready.0;
}

pub returns-then-not-is_done : goal.returns-then-not-is_done
returns-then-not-is_done c = built_none
    (write_kept
    (written_as c.requires.ready.1
    c.write_amount.ensures) c.is_done.ensures c.if-not-is_done.true)

pub overflow_add-result : goal.overflow_add-result
overflow_add-result c = let stop = c.stops.ensures
    c.if-not-stops.false in
    omega (
      arith,
      stop.within,
      c.well_formed.1.1.1.1.1.0,
    )

pub returns : goal.returns
returns c =
    let stop = c.stops.ensures c.if-not-stops.false in
    let k = quantity_number c.args.row c.args.q _ _ _ c.requires.ready.1 c.requires.ready.0 in
    built_some (number_built stop c.is_done.ensures c.if-not-is_done.false k.1 (rw (back (goal.at.returns c).After-struct_told-1)
    (c.number_from-a.ensures.reads c.if-to-at.false)) (written_as c.requires.ready.1
    c.write_amount.ensures))
