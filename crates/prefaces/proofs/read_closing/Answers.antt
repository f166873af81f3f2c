use mathlib.Core.Path.{sym, ap, ◌∙◌}
use Rattle.reading.specs.rule.Token.{passed}
use Rattle.prefaces.specs.Code.{end_of}
use Rattle.xml_reading.specs.rule.Word.{SURVEY}
use Rattle.prefaces.proofs.Binds.{passed_is, closing_is}
use Rattle.prefaces.proofs.read_closing.Goals as goal

pub close_sss-requires : goal.close_sss-requires
close_sss-requires c = rw c.in-Ok.is at c.pass_end.ensures.1

pub returns-in-Ok : goal.returns-in-Ok
returns-in-Ok c =
    let a = c.args in
    let e = sym (passed_is (end_of a.bad a.d.now SURVEY a.at) c.pass_end.ensures.0)
    ∙ ap passed c.in-Ok.is in
    (rw (closing_is a.bad a.d.now a.at, e) c.close_sss.ensures.0, c.close_sss.ensures.1)

pub returns-in-Err : goal.returns-in-Err
returns-in-Err c =
    let a = c.args in
    let e = sym (passed_is (end_of a.bad a.d.now SURVEY a.at) c.pass_end.ensures.0)
    ∙ ap passed c.in-Err.is in
    (rw (closing_is a.bad a.d.now a.at, e), tt)
