use native.Mathlib.Omega.{arith}
use Rattle.elements.proofs.is_start.Goals as goal

pub overflow_add-place : goal.overflow_add-place
overflow_add-place c = let w = rw c.in-Start.is at c.requires in omega (arith, w.1, w.2)

pub is_named-requires : goal.is_named-requires
is_named-requires c = let w = rw c.in-Start.is at
    c.requires in (omega (arith, w.1), w.2)

pub returns-in-Start : goal.returns-in-Start
returns-in-Start c = rw c.in-Start.is c.is_named.ensures
