-- `lines::append_number` meets its contract: the minus, if there is one, and the digits of the size.
use mathlib.Core.Path.{◌≡◌, ap, ◌∙◌}
use native.Mathlib.Omega.{arith}
use mir.Facts.{to_z-of_z}
use Rattle.cells.specs.rule.Cell.{signed_of}
use Rattle.lines.specs.Appended.{keeps_room, then, as_text, number_minus, number_plain}
use mir.Syntax.{w64}
use Rattle.lines.proofs.append_number.Goals as goal
use Rattle.lines.proofs.append_number.Goals.{After-signed_of-s}

-- the number is read back from its bits as it is
split : (c : After-signed_of-s) → c.signed_of-s.result ≡ signed_of c.args.z
split c = c.signed_of-s.ensures ∙ ap signed_of (to_z-of_z {w = w64} c.ranges.z)

pub append_count-requires : goal.append_count-requires
append_count-requires c =
    let b = c.append_byte-end.ensures in record {
      tens = c.requires.tens;
      n_bound = (
        rw (split (goal.at.append_count-requires c).After-signed_of-s) c.requires.z_bound.0,
        omega (arith, c.requires.z_bound.1, keeps_room b, b.ends),
      );
    }

pub returns-then-s : goal.returns-then-s
returns-then-s c =
    as_text (then c.append_byte-end.ensures c.append_count.ensures) (number_minus _ _
    (split (goal.at.returns-then-s c).After-signed_of-s) c.if-s.true)

pub append_count-requires-2 : goal.append_count-requires-2
append_count-requires-2 c = record {
  tens = c.requires.tens;
  n_bound = (rw (split (goal.at.append_count-requires-2 c).After-signed_of-s) c.requires.z_bound.0, omega (arith, c.requires.z_bound.1));
}

pub returns : goal.returns
returns c = as_text c.append_count-2.ensures
    (number_plain _ _ (split (goal.at.returns c).After-signed_of-s) c.if-s.false)
