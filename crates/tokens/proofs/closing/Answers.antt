use native.Mathlib.Omega.{arith}
use Rattle.tokens.proofs.Closings.{string_closing}
use Rattle.tokens.proofs.closing.Goals as goal

pub returns-then-d-m-eq34 : goal.returns-then-d-m-eq34
returns-then-d-m-eq34 c e =
    let a = c.args in
    let p = c.pass_forms-m in
    string_closing a.d.now a.n p.result (omega arith) c.if-d-n-ne34.false
    c.if-m-d.true c.if-d-m-eq34.true p.ensures

pub returns-then-d-n : goal.returns-then-d-n
returns-then-d-n c e = absurd (omega arith)

pub returns-then-d-n-ne34 : goal.returns-then-d-n-ne34
returns-then-d-n-ne34 c e = absurd (omega arith)

pub returns-else-d-m-eq34 : goal.returns-else-d-m-eq34
returns-else-d-m-eq34 c e = absurd (omega arith)

pub returns-else-m-d : goal.returns-else-m-d
returns-else-m-d c e = absurd (omega arith)
