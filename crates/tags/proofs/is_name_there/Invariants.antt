use mathlib.Core.Path.{◌≡◌}
use Prim.Native.Nat.{◌+◌}
use lib.ListN.{drop}
use Rattle.markup.specs.rule.Bytes.{of_kind, stands}
use Rattle.markup.specs.rule.Grammar.{Each}
use Rattle.tags.proofs.is_name_there.Given as goal

abbrev pub invariant-loop-i : goal.invariant-loop-i
invariant-loop-i l = (stands l.w (drop l.at l.d) ≡ stands (drop l.i l.w) (drop (l.at + l.i) l.d))
    × (Each (of_kind 1) (drop l.i l.w) → Each (of_kind 1) l.w)
