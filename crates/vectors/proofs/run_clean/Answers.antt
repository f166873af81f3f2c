-- `vectors::run_clean` meets its contract: what it lends lies within what it has.
use native.Mathlib.Omega.{arith}
use lib.ListN.{length-take}
use Rattle.vectors.proofs.run_clean.Goals as goal

pub slice_bounds-page-end : goal.slice_bounds-page-end
slice_bounds-page-end g c = let h = c.min.ensures in simp length-take (omega arith)
