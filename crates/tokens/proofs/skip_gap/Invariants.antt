-- `tokens::skip_gap` meets its contract. The invariant: the gap from here on ends as the whole gap does.
use mathlib.Core.Path.{◌≡◌}
use Prim.Native.Nat.{◌-◌}
use lib.ListN.{length}
use Rattle.tokens.specs.rule.Gap.{gap_at}
use Rattle.tokens.proofs.skip_gap.Given as goal

abbrev pub invariant-loop-at : goal.invariant-loop-at
invariant-loop-at l = gap_at l.d l.at ≡ gap_at l.d l.n

abbrev pub decreases-loop-at : goal.decreases-loop-at
decreases-loop-at l = length l.d - l.n
