-- `writes::marked::range_fits` meets its contract: what lies in the range is legal.
use mathlib.Core.Path.{◌≡◌, sym, ◌∙◌}
use Prim.Native.Nat.{ℕ}
use native.Mathlib.Omega.{arith}
use borrow.Author.Rules.{rules}
use borrow.Author.Tests.{not-false}
use mir.Syntax.{w64}
use mir.Val.{to_z, of_z}
use Rattle.writes.proofs.Cases.{range_fits}
use Rattle.writes.proofs.marked.range_fits.Goals as goal
use Rattle.writes.proofs.marked.range_fits.Goals.{After-struct_told-2-1}

-- the row's numbers are read back from their bits as they are
from_back : (c : After-struct_told-2-1) → to_z w64 (of_z w64 c.args.row.from) ≡ c.args.row.from
from_back c = search rules

to_back : (c : After-struct_told-2-1) → to_z w64 (of_z w64 c.args.row.to) ≡ c.args.row.to
to_back c = search rules

pub returns : goal.returns
returns c e =
    range_fits _ _ _ _ (not-false _ c.if-not-row.false)
    (sym (c.fits_in.ensures ∙ rw (from_back (goal.at.returns c).After-struct_told-2-1, to_back (goal.at.returns c).After-struct_told-2-1))
    ∙ e)

pub returns-then-not-row : goal.returns-then-not-row
returns-then-not-row c e = let z : ◌≡◌ {A = ℕ} 0 1 = cc in absurd (omega arith)
