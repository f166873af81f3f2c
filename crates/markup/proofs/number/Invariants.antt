use mathlib.Core.Path.{◌≡◌}
use Prim.Native.Nat.{◌≤◌}
use lib.ListN.{drop}
use Rattle.markup.specs.rule.Reference.{digit_kind, reference_figure}
use Rattle.markup.proofs.number.Given as goal

abbrev pub invariant-loop-i : goal.invariant-loop-i
invariant-loop-i l = (reference_figure l.hex 0 l.at (drop l.at l.d) ≡ reference_figure l.hex l.v l.i (drop l.i l.d)) × (l.v ≤ 2000000)
    × (l.kind ≡ digit_kind l.hex)
