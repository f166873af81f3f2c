-- `uses::specials_none` meets its contract. The invariant: SPECIAL is 0 on the lines looked at so far.
use mathlib.Core.Path.{◌≡◌}
use mathlib.Core.Bool.{true}
use lib.Dec.{eqb}
use Rattle.below.specs.rule.Below.{all_below}
use Rattle.layout.specs.rule.Layout.{line_base, line_at}
use Rattle.uses.proofs.specials_none.Given as goal

abbrev pub invariant-loop-j : goal.invariant-loop-j
invariant-loop-j l = all_below l.j (λ k. eqb (line_at l.t (line_base l.v k)).special 0) ≡ true
