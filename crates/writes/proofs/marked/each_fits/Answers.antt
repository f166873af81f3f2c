-- `writes::marked::each_fits` meets its contract.
use mathlib.Core.Path.{◌≡◌, sym, ◌∙◌}
use Prim.Native.Nat.{ℕ}
use native.Mathlib.Omega.{arith}
use borrow.Author.Rules.{sfits_of}
use mir.Facts.{to_z-of_z}
use Rattle.writes.proofs.Cases.{each_fits}
use Rattle.writes.proofs.marked.each_fits.Goals as goal

pub returns : goal.returns
returns c = λ e.
    each_fits _ _ _ _ _ (c.lines_count.ensures c.if-not-lines_count.false)
    (sym (c.fits_in.ensures ∙ rw (to_z-of_z (sfits_of c.cell_of.type_inv), c.cell_of.ensures)) ∙ e)

pub returns-then-not-lines_count : goal.returns-then-not-lines_count
returns-then-not-lines_count c e = let z : ◌≡◌ {A = ℕ} 0 1 = cc in absurd (omega arith)
