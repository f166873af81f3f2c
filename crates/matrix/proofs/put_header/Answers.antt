-- `matrix::put_header` meets its contract: six numbers, one behind the other.
-- Assumes nothing.
use mathlib.Core.Path.{refl}
use native.Mathlib.Nat.{le-mul_of_pos_right}
use native.Mathlib.Omega.{arith}
use Rattle.matrix.specs.Bytes.{header_put}
use Rattle.matrix.proofs.put_header.Goals as goal

-- each record has a column, so that there are no more records than cells
pub overflow_cast-records : goal.overflow_cast-records
overflow_cast-records c = let p = c.requires in let m = le-mul_of_pos_right c.args.records p.0 in omega arith

pub returns : goal.returns
returns c =
    let a = c.args in
    rw (
      c.put_u32-6.ensures,
      c.put_u32-5.ensures,
      c.put_u32-4.ensures,
      c.put_u32-3.ensures,
      c.put_u32-2.ensures,
      c.put_u32.ensures,
    )
    (header_put a.out.now a.records a.columns _ _ _ refl refl refl)
