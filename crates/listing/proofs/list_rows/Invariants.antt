-- `listing::list_rows` meets its contract. The invariant: the rows so far are listed.
use mathlib.Core.Path.{◌≡◌}
use Prim.Native.Nat.{◌-◌, ◌≤◌, max}
use lib.ListN.{length}
use Rattle.lines.specs.rule.Appended.{Appended}
use Rattle.listing.specs.rule.Listing.{rows_text}
use Rattle.listing.proofs.list_rows.Given as goal

abbrev pub invariant-loop-row : goal.invariant-loop-row
invariant-loop-row l = (l.row ≤ max l.i l.h.rows)
    × (length l.list ≡ length l.initial.list)
    × (length l.out ≡ length l.initial.out)
    × (l.row ≡ l.i → l.end ≡ l.at)
    × Appended l.initial.out l.at (rows_text l.t l.n l.bytes l.i (l.row - l.i)) l.out l.end
