-- `mends::lay_far` meets its contract. The invariant: j bytes are laid.
use mathlib.Core.List.{map}
use Prim.Native.Nat.{◌+◌, ◌-◌, ◌≤◌}
use Rattle.cuts.specs.Records.{part}
use Rattle.mends.specs.rule.Mend.{plain_byte}
use Rattle.mends.specs.Mend.{Stored}
use Rattle.mends.proofs.lay_far.Given as goal

abbrev pub invariant-loop-j : goal.invariant-loop-j
invariant-loop-j l = (l.j ≤ l.n) × Stored l.initial.out l.out l.at (map plain_byte (part l.d l.from (l.from + l.j))) (l.at + l.j)

abbrev pub decreases-loop-j : goal.decreases-loop-j
decreases-loop-j l = l.n - l.j
