-- `value_fields::eight_spaces` meets its contract. The invariant: where the flag holds, the bytes so far are spaces.
use mathlib.Core.Path.{◌≡◌}
use mathlib.Core.Bool.{true}
use Rattle.value_fields.specs.Ends.{SpacesFrom}
use Rattle.value_fields.proofs.eight_spaces.Given as goal

abbrev pub invariant-loop-k : goal.invariant-loop-k
invariant-loop-k l = l.all ≡ true → SpacesFrom l.s l.i l.k
