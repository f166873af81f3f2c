use mathlib.Core.Path.{◌≡◌}
use Prim.Native.Nat.{◌+◌}
use lib.ListN.{drop}
use Rattle.prologs.specs.rule.Told.{alikes}
use Rattle.prologs.proofs.is_alike.Given as goal

abbrev pub invariant-loop-i : goal.invariant-loop-i
invariant-loop-i l = alikes l.w (drop l.at l.d) ≡ alikes (drop l.i l.w) (drop (l.at + l.i) l.d)
