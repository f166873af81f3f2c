-- The last bytes that `vectors::run_all` writes lie within its buffer.
use lib.ListN.{length-take}
use native.Mathlib.Omega.{arith}
use Rattle.vectors.proofs.run_all.Goals as goal

pub slice_bounds-write_all-end-2 : goal.slice_bounds-write_all-end-2
slice_bounds-write_all-end-2 g c =
    let h = c.min-last.ensures in
    simp length-take (omega arith)
