use native.Mathlib.Omega.{arith}
use Rattle.sets.specs.Full.{lines_legal}
use Rattle.sets.proofs.alike.lines_count.Goals as goal
use Rattle.sets.proofs.alike.lines_count.Goals.{After-same}

pub returns : goal.returns
returns c = λ e.
    let a = c.args in
    let l = c.loop-k in
    lines_legal a.t.now a.rows a.row a.w (omega arith) (λ j h. l.invariant j (omega arith))
