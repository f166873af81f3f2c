-- `vectors::put_read` meets its contract: the numbers that it prints are within the table.
use native.Mathlib.Omega.{arith}
use lib.ListN.{length-take}
use Rattle.vectors.proofs.put_read.Goals as goal

pub slice_bounds-put_table-end : goal.slice_bounds-put_table-end
slice_bounds-put_table-end g c =
    let h = c.min-used.ensures in
    simp length-take (omega arith)
