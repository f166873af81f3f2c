-- `writes::plain::blank_row` meets its contract: each arm has what the kind is there.
use mathlib.Core.Path.{refl}
use Prim.Native.Nat.{◌-◌}
use native.Mathlib.Omega.{arith}
use Rattle.fields.specs.rule.Row.{places_by}
use Rattle.writes.proofs.Cases.{blanked_run, ready_as, written_as}
use Rattle.writes.proofs.plain.blank_row.Goals as goal

pub overflow_sub-row : goal.overflow_sub-row
overflow_sub-row c = let h = ready_as c.in-Single.is c.requires in
    omega (arith, h.from_one, h.kind.room)

pub blank-requires : goal.blank-requires
blank-requires c = let h = ready_as c.in-Single.is c.requires in
    omega (arith, h.from_one, h.ordered, h.inside, h.kind.room)

pub blank_multiple-requires : goal.blank_multiple-requires
blank_multiple-requires c = ready_as c.in-Multiple.is c.requires

pub returns-in-Multiple : goal.returns-in-Multiple
returns-in-Multiple c = written_as c.in-Multiple.is c.blank_multiple.ensures

pub overflow_sub-row-in-Quantity : goal.overflow_sub-row-in-Quantity
overflow_sub-row-in-Quantity c = let h = ready_as c.in-Quantity.is c.requires in
    omega (arith, h.from_one, h.kind.width.room)

pub blank-requires-in-Quantity : goal.blank-requires-in-Quantity
blank-requires-in-Quantity c = let h = ready_as c.in-Quantity.is c.requires in
    omega (arith, h.from_one, h.ordered, h.inside, h.kind.width.room)

pub blank-requires-in-Character : goal.blank-requires-in-Character
blank-requires-in-Character c = let h = ready_as c.in-Character.is c.requires in
    omega (arith, h.from_one, h.ordered, h.inside, h.kind.room)

pub blank-requires-in-Logical : goal.blank-requires-in-Logical
blank-requires-in-Logical c = let h = ready_as c.in-Logical.is c.requires in
    omega (arith, h.from_one, h.ordered, h.inside, h.kind.room)

pub returns-in-Single : goal.returns-in-Single
unfolding places_by
returns-in-Single c =
    let row = c.args.row in
    blanked_run c.in-Single.is (row.finish - row.width) row.width refl
    c.blank.ensures

pub returns-in-Quantity : goal.returns-in-Quantity
unfolding places_by
returns-in-Quantity c =
    let row = c.args.row in
    blanked_run c.in-Quantity.is (row.finish - row.width) row.width refl
    c.blank-in-Quantity.ensures

pub returns-in-Character : goal.returns-in-Character
unfolding places_by
returns-in-Character c =
    let row = c.args.row in
    blanked_run c.in-Character.is (row.start - 1) row.width refl
    c.blank-in-Character.ensures

pub returns-in-Logical : goal.returns-in-Logical
unfolding places_by
returns-in-Logical c =
    let row = c.args.row in
    blanked_run c.in-Logical.is (row.finish - 1) 1 refl
    c.blank-in-Logical.ensures
