-- `writes::plain::write_number` meets its contract: the tests in their order, and then the bytes.
use mathlib.Core.Path.{◌≡◌, sym, ◌∙◌}
use mir.Facts.{to_z-of_z}
use Rattle.fields.specs.rule.Legal.{legal}
use Rattle.writes.proofs.Cases.{number_other, number_illegal, number_put}
use Rattle.writes.proofs.plain.write_number.Goals as goal
use Rattle.writes.proofs.plain.write_number.Goals.{After-is_legal}

-- what the test of the number says
tested : (c : After-is_legal) → legal c.args.t.now c.args.rows c.args.row c.args.z ≡ c.is_legal.result
tested c = sym (c.is_legal.ensures ∙ rw (to_z-of_z c.ranges.z))

pub returns-then-not-takes_numbers : goal.returns-then-not-takes_numbers
returns-then-not-takes_numbers c = number_other (sym c.takes_numbers.ensures ∙ c.if-not-takes_numbers.true)

pub returns-then-not-is_legal : goal.returns-then-not-is_legal
returns-then-not-is_legal c = number_illegal (sym c.takes_numbers.ensures ∙ c.if-not-takes_numbers.false)
    (tested (goal.at.returns-then-not-is_legal c).After-is_legal ∙ c.if-not-is_legal.true)

pub put_figures-requires : goal.put_figures-requires
put_figures-requires c = record {
  tens = c.requires.tens;
  ready = c.requires.ready;
  z_value = rw (to_z-of_z c.ranges.z) (tested (goal.at.put_figures-requires c).After-is_legal ∙ c.if-not-is_legal.false);
}

pub returns : goal.returns
returns c =
    number_put (sym c.takes_numbers.ensures ∙ c.if-not-takes_numbers.false)
    (tested (goal.at.returns c).After-is_legal ∙ c.if-not-is_legal.false)
    (c.put_figures.ensures ∙ rw (to_z-of_z c.ranges.z))
