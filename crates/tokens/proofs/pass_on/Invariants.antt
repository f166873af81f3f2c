-- `tokens::pass_on` meets its contract. The invariant: the gap from here on ends as the whole gap does.
use mathlib.Core.Path.{◌≡◌}
use Prim.Native.Nat.{◌≤◌, max}
use lib.ListN.{length}
use Rattle.tokens.specs.rule.Gap.{gap_at}
use Rattle.tokens.proofs.pass_on.Given as goal

abbrev pub invariant-loop-i : goal.invariant-loop-i
invariant-loop-i l = (gap_at l.d l.at ≡ gap_at l.d l.i) × (l.i ≤ max l.at (length l.d))
