-- `writes::plain::write_code` meets its contract: the test, and then the digits.
use mathlib.Core.Path.{◌≡◌, refl, sym, ◌∙◌}
use native.Mathlib.Omega.{arith}
use mir.Facts.{to_z-of_z}
use Rattle.fields.specs.rule.Legal.{legal}
use Rattle.fields.specs.rule.Row.{bytes_by, places_by}
use Rattle.writes.proofs.Cases.{number_illegal, number_put, code_few}
use Rattle.writes.proofs.plain.write_code.Goals as goal
use Rattle.writes.proofs.plain.write_code.Goals.{After-is_legal}

-- what the test of the number says
tested : (c : After-is_legal) → legal c.args.t.now c.args.rows c.args.row c.args.z ≡ c.is_legal.result
tested c = sym (c.is_legal.ensures ∙ rw (to_z-of_z c.ranges.z))

pub returns-then-not-is_legal : goal.returns-then-not-is_legal
returns-then-not-is_legal c = number_illegal refl (tested (goal.at.returns-then-not-is_legal c).After-is_legal ∙ c.if-not-is_legal.true)

pub overflow_sub-row : goal.overflow_sub-row
overflow_sub-row c = let h = c.requires.ready in omega (arith, h.from_one, h.kind.room)

pub put_code-requires : goal.put_code-requires
put_code-requires c =
    let h = c.requires.ready in record {
      tens = c.requires.tens;
      z_bound = (
        rw (to_z-of_z c.ranges.z) (code_few h _ (tested (goal.at.put_code-requires c).After-is_legal ∙ c.if-not-is_legal.false)),
        omega (arith, h.kind.few),
        omega (arith, h.from_one, h.kind.room, h.inside),
      );
    }

pub returns : goal.returns
unfolding places_by bytes_by
returns c =
    number_put refl (tested (goal.at.returns c).After-is_legal ∙ c.if-not-is_legal.false)
    (c.put_code.ensures ∙ rw (to_z-of_z c.ranges.z))
