-- `writes::plain::put_figures` meets its contract: the bytes of each kind of number, and none for the other kinds.
use mathlib.Core.Path.{◌≡◌, ◌∙◌}
use mathlib.Core.Bool.{false}
use native.Mathlib.Omega.{arith}
use mir.Facts.{to_z-of_z}
use Rattle.fields.specs.rule.Row.{bytes_by, places_by}
use Rattle.places.specs.rule.Places.{put}
use Rattle.fields.specs.rule.Field.{number}
use Rattle.writes.specs.Write.{takes_numbers}
use Rattle.writes.proofs.Cases.{no_figures, ready_as, code_few, quantity_wide}
use Rattle.writes.proofs.plain.put_figures.Goals as goal
use Rattle.writes.proofs.plain.put_figures.Goals.{Start}

-- another kind has no bytes for a number
none : (s : Start) → let a = s.args in takes_numbers a.row.kind ≡ false
    → a.bytes.now
    ≡ put a.bytes.now (places_by a.row.kind a.t.now a.rows a.row)
    (bytes_by a.row.kind a.t.now a.rows a.row (number a.z))
none s e = no_figures s.args.t.now s.args.rows s.args.row s.args.z s.args.bytes.now s.args.row.kind e

pub overflow_sub-row : goal.overflow_sub-row
overflow_sub-row c = let h = ready_as c.in-Single.is c.requires.ready in
    omega (arith, h.from_one, h.kind.room)

pub put_code-requires : goal.put_code-requires
put_code-requires c =
    let h = ready_as c.in-Single.is c.requires.ready in record {
      tens = c.requires.tens;
      z_bound = (
        rw (to_z-of_z c.ranges.z) (code_few h _ c.requires.z_value),
        omega (arith, h.kind.few),
        omega (arith, h.from_one, h.kind.room, h.inside),
      );
    }

pub overflow_sub-row-in-Quantity : goal.overflow_sub-row-in-Quantity
overflow_sub-row-in-Quantity c = let h = ready_as c.in-Quantity.is
    c.requires.ready in omega (arith, h.from_one, h.kind.width.room)

pub put_quantity-requires : goal.put_quantity-requires
put_quantity-requires c =
    let h = ready_as c.in-Quantity.is c.requires.ready in record {
      tens = c.requires.tens;
      wide = (rw (to_z-of_z c.ranges.z) (quantity_wide h _ c.requires.z_value), omega (arith, h.from_one, h.kind.width.room, h.inside));
    }

pub returns-in-Single : goal.returns-in-Single
unfolding places_by bytes_by
returns-in-Single c = rw c.in-Single.is
    (c.put_code.ensures ∙ rw (to_z-of_z c.ranges.z))

pub returns-in-Quantity : goal.returns-in-Quantity
unfolding places_by bytes_by
returns-in-Quantity c =
    rw c.in-Quantity.is (c.put_quantity.ensures ∙ rw (to_z-of_z c.ranges.z))

pub returns-in-Multiple : goal.returns-in-Multiple
returns-in-Multiple c = none (goal.at.returns-in-Multiple c).Start (rw c.in-Multiple.is)

pub returns-in-Character : goal.returns-in-Character
returns-in-Character c = none (goal.at.returns-in-Character c).Start (rw c.in-Character.is)

pub returns-in-Logical : goal.returns-in-Logical
returns-in-Logical c = none (goal.at.returns-in-Logical c).Start (rw c.in-Logical.is)
