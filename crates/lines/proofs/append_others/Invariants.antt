-- `lines::append_others` meets its contract. The invariant: what is left to append gives the whole.
use mathlib.Core.Path.{◌≡◌}
use Prim.Native.Nat.{◌+◌, ◌*◌, ◌≤◌}
use lib.ListN.{length, take, drop}
use Rattle.lines.specs.rule.Text.{codes_after}
use Rattle.lines.specs.Appended.{Left}
use Rattle.lines.proofs.append_others.Given as goal

abbrev pub invariant-loop-j : goal.invariant-loop-j
invariant-loop-j l = (length l.out ≡ length l.initial.out)
    × (l.end + 5 ≤ l.at + 5 * l.j)
    × Left l.out l.end (codes_after (drop l.j (take l.n l.list))) l.initial.out l.at (codes_after (drop 1 (take l.n l.list)))
