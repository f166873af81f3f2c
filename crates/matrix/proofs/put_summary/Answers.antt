-- `matrix::put_summary` meets its contract: three numbers, one behind the other.
-- Assumes nothing.
use Rattle.matrix.specs.Bytes.{summary_put}
use Rattle.matrix.proofs.put_summary.Goals as goal

pub returns : goal.returns
returns c =
    let a = c.args in
    rw (
      c.put_f64-2.ensures,
      c.put_f64.ensures,
      c.put_u64.ensures,
    ) (summary_put a.out.now a.at a.s)
