-- `sets::marks_worth` meets its contract.
use native.Mathlib.Nat.{mul-le-mul}
use native.Mathlib.Omega.{arith}
use Rattle.sets.proofs.marks_worth.Goals as goal

pub overflow_mul-lines : goal.overflow_mul-lines
overflow_mul-lines c = omega (arith, mul-le-mul c.requires.lines_bound c.requires.tests_bound)
