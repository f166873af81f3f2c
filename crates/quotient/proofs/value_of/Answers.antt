-- `quotient::value_of` meets its contract. Each cast is in the range where the format holds every whole number.
-- The machine reads a signed number back from its bits.
-- Assumes nothing.
use mir.Syntax.{w64}
use mir.ValLaws.{to_z-of_z}
use Rattle.quotient.specs.rule.Value.{value_of}
use Rattle.quotient.specs.Exact.{power_in}
use Rattle.quotient.proofs.Exact.{scaled_in}
use Rattle.quotient.proofs.value_of.Goals as goal

pub int_to_float-n : goal.int_to_float-n
int_to_float-n c = rw (to_z-of_z w64 c.args.scaled c.ranges.scaled) (scaled_in _ c.requires.scaled)

pub returns : goal.returns
unfolding value_of
returns c = rw (to_z-of_z w64 c.args.scaled c.ranges.scaled)

pub int_to_float-p : goal.int_to_float-p
int_to_float-p c = power_in _ c.requires.power
