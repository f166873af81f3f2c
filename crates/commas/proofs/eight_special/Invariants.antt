-- `commas::eight_special` meets its contract. The invariant: what was found, and what the bytes that are left hold, is the whole.
use mathlib.Core.Path.{◌≡◌}
use mathlib.Core.Bool.{◌||◌}
use Prim.Native.Nat.{◌+◌}
use lib.ListN.{drop}
use Rattle.commas.specs.rule.Csv.{holds_special}
use Rattle.commas.proofs.eight_special.Given as goal

abbrev pub invariant-loop-k : goal.invariant-loop-k
invariant-loop-k l = holds_special (drop l.i l.s) ≡ (l.some || holds_special (drop (l.i + l.k) l.s))
