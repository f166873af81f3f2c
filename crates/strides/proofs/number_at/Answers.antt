use Prim.Native.Nat.{◌+◌, ◌*◌, ◌≤◌}
use native.Mathlib.Omega.{arith}
use lib.ListN.{length}
use Rattle.strides.specs.Stride.{stride_in}
use Rattle.strides.proofs.number_at.Goals as goal
use Rattle.strides.proofs.number_at.Goals.{Start}

inside : (c : Start) → c.args.at + c.args.step * c.args.k + c.args.step ≤ length c.args.t.now
inside c = stride_in c.requires.0 c.args.k c.requires.1

pub overflow_mul-result : goal.overflow_mul-result
overflow_mul-result c = omega (arith, inside c)

pub overflow_add-result : goal.overflow_add-result
overflow_add-result c = omega (arith, inside c)

pub offset_bounds-t-at : goal.offset_bounds-t-at
offset_bounds-t-at c = omega (arith, inside c)

pub bounds-t-at : goal.bounds-t-at
bounds-t-at c = omega (arith, inside c, c.requires.0.apart)
