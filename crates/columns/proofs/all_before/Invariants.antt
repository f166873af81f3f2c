-- `columns::all_before` meets its contract. The invariant: of the numbers passed none is a category from the gap on, if all were before it.
-- Assumes nothing.
use mathlib.Core.Path.{◌≡◌}
use mathlib.Core.Bool.{true}
use Rattle.columns.specs.Ones.{NoneFrom}
use Rattle.columns.proofs.all_before.Given as goal

abbrev pub invariant-loop-k : goal.invariant-loop-k
invariant-loop-k l = l.all ≡ true → NoneFrom l.list l.k l.gap
