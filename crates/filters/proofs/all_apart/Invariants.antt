use mathlib.Core.Path.{◌≡◌}
use Rattle.filters.specs.Sums.{all_apart}
use Rattle.filters.proofs.all_apart.Given as goal

abbrev pub invariant-loop-k : goal.invariant-loop-k
invariant-loop-k l = l.apart ≡ all_apart l.sums l.sum l.i l.k
