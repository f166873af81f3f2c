use mathlib.Core.Path.{◌≡◌}
use Prim.Native.Nat.{◌+◌, ◌≤◌}
use lib.ListN.{length, drop}
use Rattle.markup.specs.rule.Bytes.{stands}
use Rattle.markup.proofs.is_there.Given as goal

abbrev pub invariant-loop-i : goal.invariant-loop-i
invariant-loop-i l = (stands l.w (drop l.at l.d) ≡ stands (drop l.i l.w) (drop (l.at + l.i) l.d)) × (l.at + length l.w ≤ length l.d)
