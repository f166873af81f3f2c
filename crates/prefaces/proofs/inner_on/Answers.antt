use mathlib.Core.Path.{sym, ap, ◌∙◌}
use Rattle.reading.specs.rule.Token.{passed}
use Rattle.prefaces.specs.Code.{rule_of, inner_of}
use Rattle.prefaces.proofs.Binds.{passed_is}
use Rattle.prefaces.proofs.inner_on.Goals as goal

pub returns-in-Ok : goal.returns-in-Ok
returns-in-Ok c =
    let a = c.args in
    let e = sym (passed_is (inner_of a.bad a.d.now (rule_of a.m) a.at) c.read_inner.ensures.0)
    ∙ ap passed c.in-Ok.is in
    (rw e, rw c.in-Ok.is at c.read_inner.ensures.1)

pub returns-in-Err : goal.returns-in-Err
returns-in-Err c =
    let a = c.args in
    let e = sym (passed_is (inner_of a.bad a.d.now (rule_of a.m) a.at) c.read_inner.ensures.0)
    ∙ ap passed c.in-Err.is in
    (rw e, tt)
