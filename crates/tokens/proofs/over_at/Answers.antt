use native.Mathlib.Omega.{arith}
use Rattle.tokens.proofs.Spaces.{spaces_clear}
use Rattle.tokens.proofs.over_at.Goals as goal

pub returns : goal.returns
returns c =
    let a = c.args in
    let e = c.get_u64.ensures in
    spaces_clear a.d.now (λ k. omega (arith, c.shared_slice_known-1.given k)) a.i _ c.requires
    (rw e at c.over_spaces.ensures)
