-- `matrices::put_told` meets its contract. The invariant: the summaries that are left, put from here, give the whole.
-- Assumes nothing.
use mathlib.Core.Path.{◌≡◌}
use Prim.Native.Nat.{◌+◌, ◌-◌, ◌*◌}
use lib.ListN.{length}
use Rattle.little.specs.rule.Bytes.{put_at}
use Rattle.matrices.specs.Summaries.{told_from}
use Rattle.matrices.proofs.put_told.Given as goal

abbrev pub invariant-loop-j : goal.invariant-loop-j
invariant-loop-j l = (length l.out ≡ length l.initial.out)
    × (put_at l.out (l.at + 24 * l.j) (told_from l.n l.ones l.j (16 - l.j)) ≡ put_at l.initial.out l.at (told_from l.n l.ones 0 16))
