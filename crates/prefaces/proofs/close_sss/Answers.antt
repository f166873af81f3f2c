use mathlib.Core.Path.{sym, ap, ◌∙◌}
use Rattle.reading.specs.rule.Token.{passed}
use Rattle.prefaces.specs.Code.{end_of}
use Rattle.xml_reading.specs.rule.Word.{SSS}
use Rattle.prefaces.proofs.Binds.{passed_is}
use Rattle.prefaces.proofs.close_sss.Goals as goal

pub pass_tail-requires : goal.pass_tail-requires
pass_tail-requires c = rw c.in-Ok.is at c.pass_end.ensures.1

pub returns-in-Ok : goal.returns-in-Ok
returns-in-Ok c =
    let a = c.args in
    let e = sym (passed_is (end_of a.bad a.d.now SSS a.at) c.pass_end.ensures.0)
    ∙ ap passed c.in-Ok.is in
    (rw e c.pass_tail.ensures.0, c.pass_tail.ensures.1)

pub returns-in-Err : goal.returns-in-Err
returns-in-Err c = let a = c.args in (
  rw
      (sym (passed_is (end_of a.bad a.d.now SSS a.at) c.pass_end.ensures.0)
      ∙ ap passed c.in-Err.is),
  tt,
)
