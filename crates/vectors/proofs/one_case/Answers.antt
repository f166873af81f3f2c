-- `vectors::one_case` meets its contract: what it lends lies within what it has, and the next case starts further on.
use native.Mathlib.Omega.{arith}
use lib.ListN.{length-take}
use Rattle.vectors.proofs.one_case.Goals as goal

pub slice_bounds-run_case-end-3 : goal.slice_bounds-run_case-end-3
slice_bounds-run_case-end-3 g c =
    let h = c.min-lent.ensures in
    simp length-take (omega arith)
