-- `matrix::all_are` meets its contract. The invariant: whether those looked at so far are all b.
-- Assumes nothing.
use mathlib.Core.Path.{◌≡◌}
use Rattle.matrix.specs.Noughts.{all_are}
use Rattle.matrix.proofs.all_are.Given as goal

abbrev pub invariant-loop-k : goal.invariant-loop-k
invariant-loop-k l = l.all ≡ all_are l.s l.i l.k l.b
