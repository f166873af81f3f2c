-- `sound::rows_good` meets its contract. The invariant: the rows are good as far as they were looked at, their lines added up to sum,
-- the highest finish is `high`.
use mathlib.Core.Path.{◌≡◌}
use mathlib.Core.Bool.{true}
use Prim.Native.Nat.{◌≤◌}
use Rattle.below.specs.rule.Below.{all_below}
use Rattle.sound.specs.rule.Sound.{lines_before, highest_finish, good_at}
use Rattle.sound.proofs.rows_good.Given as goal

abbrev pub invariant-loop-i : goal.invariant-loop-i
invariant-loop-i l = (l.sum ≤ l.e) × (l.sum ≡ lines_before l.t l.i) × (l.high ≡ highest_finish l.t l.i)
    × (all_below l.i (good_at l.t l.v l.e) ≡ true)
