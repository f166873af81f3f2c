-- `field_values::all_zeros` meets its contract. The invariant: zeros so far.
use mathlib.Core.Path.{◌≡◌}
use lib.ListN.{drop}
use Rattle.field_values.specs.rule.Read.{all_zeros}
use Rattle.field_values.proofs.all_zeros.Given as goal

abbrev pub invariant-loop-b : goal.invariant-loop-b
invariant-loop-b l = all_zeros l.s ≡ all_zeros (drop l.b-index l.s)
