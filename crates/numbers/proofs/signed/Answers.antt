-- `numbers::signed` meets its contract.
use mathlib.Core.Path.{◌∙◌}
use mir.Facts.{to_z-of_z}
use mir.ValLaws.{to_z_pos}
use mir.Syntax.{w64}
use Rattle.cells.specs.rule.Cell.{number_of}
use Rattle.cells.proofs.Signs.{zero_minus, zero_minus_fits}
use native.Mathlib.Omega.{arith}
use Rattle.numbers.proofs.signed.Goals as goal

pub overflow_sub-result : goal.overflow_sub-result
overflow_sub-result c = zero_minus_fits c.args.size (omega arith)

pub returns-then-minus : goal.returns-then-minus
unfolding number_of
returns-then-minus c = rw c.if-minus.true (to_z-of_z (zero_minus_fits c.args.size (omega arith))
    ∙ zero_minus c.args.size (omega arith))

pub returns-else-minus : goal.returns-else-minus
unfolding number_of
returns-else-minus c = rw c.if-minus.false (to_z_pos w64 c.args.size (omega arith))
