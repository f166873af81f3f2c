-- `writes::plain::write_amount` meets its contract: the test, and then the digits.
use mathlib.Core.Path.{◌≡◌, refl, sym, ◌∙◌}
use native.Mathlib.Omega.{arith}
use mir.Facts.{to_z-of_z}
use Rattle.fields.specs.rule.Legal.{legal}
use Rattle.fields.specs.rule.Row.{bytes_by, places_by}
use Rattle.writes.proofs.Cases.{number_illegal, number_put, quantity_wide}
use Rattle.writes.proofs.plain.write_amount.Goals as goal
use Rattle.writes.proofs.plain.write_amount.Goals.{After-is_legal}

-- what the test of the number says
tested : (c : After-is_legal) → legal c.args.t.now c.args.rows c.args.row c.args.z ≡ c.is_legal.result
tested c = sym (c.is_legal.ensures ∙ rw (to_z-of_z c.ranges.z))

pub returns-then-not-is_legal : goal.returns-then-not-is_legal
returns-then-not-is_legal c = number_illegal refl (tested (goal.at.returns-then-not-is_legal c).After-is_legal ∙ c.if-not-is_legal.true)

pub overflow_sub-row : goal.overflow_sub-row
overflow_sub-row c = let h = c.requires.ready in omega (arith, h.from_one, h.kind.width.room)

pub put_quantity-requires : goal.put_quantity-requires
put_quantity-requires c =
    let h = c.requires.ready in record {
      tens = c.requires.tens;
      wide = (
        rw (to_z-of_z c.ranges.z) (quantity_wide h _ (tested (goal.at.put_quantity-requires c).After-is_legal ∙ c.if-not-is_legal.false)),
        omega (arith, h.from_one, h.kind.width.room, h.inside),
      );
    }

pub returns : goal.returns
unfolding places_by bytes_by
returns c =
    number_put refl (tested (goal.at.returns c).After-is_legal ∙ c.if-not-is_legal.false)
    (c.put_quantity.ensures ∙ rw (to_z-of_z c.ranges.z))
