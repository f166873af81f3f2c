-- `uses::rows_unused` meets its contract. The invariant: what was laid is 0 just where no row looked at so far has a use or a filter.
use mathlib.Core.Path.{◌≡◌}
use lib.Dec.{eqb}
use Rattle.below.specs.rule.Below.{all_below}
use Rattle.layout.specs.rule.Layout.{row_base, columns_at}
use Rattle.uses.specs.rule.Uses.{unused}
use Rattle.uses.proofs.rows_unused.Given as goal

abbrev pub invariant-loop-i : goal.invariant-loop-i
invariant-loop-i l = eqb l.laid 0 ≡ all_below l.i (λ k. unused (columns_at l.t (row_base k)))
