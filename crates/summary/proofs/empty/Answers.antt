-- `summary::empty` meets its contract: the literal 0.0, by its bits, is the float +0.
-- Assumes nothing.
use mathlib.Core.Path.{refl}
use lib.Ieee.{of_bits}
use Rattle.summary.specs.rule.Summary.{none_summed}
use Rattle.summary.proofs.empty.Goals as goal

pub returns : goal.returns
unfolding none_summed of_bits
returns c = refl
