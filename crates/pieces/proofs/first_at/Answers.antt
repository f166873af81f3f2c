-- `pieces::first_at` meets its contract: a number of 32 bits has at most 32 zeros.
use native.Mathlib.Omega.{arith}
use lib.Count.{trailing_le}
use Rattle.pieces.proofs.first_at.Goals as goal

pub overflow_cast-result : goal.overflow_cast-result
overflow_cast-result c = record { fits = omega (arith, trailing_le 32 c.args.bits) }

pub overflow_add-result : goal.overflow_add-result
overflow_add-result c = record { fits = omega (arith, trailing_le 32 c.args.bits) }
