-- `cells::number_of` meets its contract. Assumes nothing.
use mathlib.Core.Path.{◌∙◌}
use native.Mathlib.Omega.{arith}
use mir.Facts.{to_z-of_z}
use mir.ValLaws.{to_z_pos}
use mir.Syntax.{w64}
use Rattle.cells.specs.rule.Cell.{number_of}
use Rattle.cells.proofs.Signs.{zero_minus, zero_minus_fits}
use Rattle.cells.proofs.number_of.Goals as goal

pub returns-then-minus : goal.returns-then-minus
unfolding number_of
returns-then-minus c = rw c.if-minus.true (to_z-of_z (zero_minus_fits c.args.size (omega arith))
    ∙ zero_minus c.args.size (omega arith))

pub returns-else-minus : goal.returns-else-minus
unfolding number_of
returns-else-minus c = rw c.if-minus.false (to_z_pos w64 c.args.size (omega arith))
