-- `line_bounds::line_most` meets its contract. The invariant: the sum so far and what is left of the rows give the whole.
use mathlib.Core.Path.{◌≡◌}
use Prim.Native.Nat.{◌+◌, ◌-◌, ◌*◌, ◌≤◌}
use Rattle.sound.specs.rule.Rows.{rows_of}
use Rattle.line_bounds.specs.Bounds.{most_from}
use Rattle.line_bounds.proofs.line_most.Given as goal

abbrev pub invariant-loop-i : goal.invariant-loop-i
invariant-loop-i l = (l.sum + most_from l.t l.i (rows_of l.t - l.i) ≡ most_from l.t 0 (rows_of l.t) + 2) × (l.sum ≤ 2 + l.i * 90001)
