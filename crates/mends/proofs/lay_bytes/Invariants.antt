-- `mends::lay_bytes` meets its contract. The invariant: whatever the output was before the first j₀ bytes were laid, j bytes are laid now.
use mathlib.Core.Path.{◌≡◌}
use mathlib.Core.List.{List, map}
use Prim.Native.Nat.{ℕ, ◌+◌, ◌-◌, ◌≤◌}
use lib.ListN.{length}
use Rattle.cuts.specs.Records.{part}
use Rattle.mends.specs.rule.Mend.{plain_byte}
use Rattle.mends.specs.Mend.{Stored}
use Rattle.mends.proofs.lay_bytes.Given as goal

abbrev pub invariant-loop-j : goal.invariant-loop-j
invariant-loop-j l = (l.j ≤ l.n)
    × (length l.out ≡ length l.initial.out)
    × ((w : List ℕ) → Stored w l.initial.out l.at (map plain_byte (part l.d l.from (l.from + l.initial.j))) (l.at + l.initial.j)
    → Stored w l.out l.at (map plain_byte (part l.d l.from (l.from + l.j))) (l.at + l.j))

abbrev pub decreases-loop-j : goal.decreases-loop-j
decreases-loop-j l = l.last - l.j
