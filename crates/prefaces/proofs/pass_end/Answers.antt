use Rattle.std.specs.Prelude.{Err}
use mathlib.Core.Path.{sym, ap, ◌∙◌}
use Rattle.xml_reading.specs.rule.Open.{within_element}
use Rattle.elements.specs.Code.{read_of}
use Rattle.elements.proofs.Dues.{missed}
use Rattle.prefaces.specs.Code.{end_of}
use Rattle.prefaces.proofs.Binds.{opened_is}
use Rattle.prefaces.proofs.pass_end.Goals as goal

pub misplaced-requires : goal.misplaced-requires
misplaced-requires c = let v = rw c.in-Start.is at c.find_open.ensures.1 in v.2

pub returns-in-Start : goal.returns-in-Start
unfolding end_of
returns-in-Start c =
    let a = c.args in
    let e = sym (opened_is (within_element a.bad a.d.now a.w.now a.at)
    c.find_open.ensures.0)
    ∙ ap read_of c.in-Start.is in
    (rw (e, missed a.bad a.d.now {A = Unit} _ _) (ap Err c.misplaced.ensures), tt)

pub returns-in-Shut : goal.returns-in-Shut
unfolding end_of
returns-in-Shut c =
    let a = c.args in
    let e = sym (opened_is (within_element a.bad a.d.now a.w.now a.at) c.find_open.ensures.0)
    ∙ ap read_of c.in-Shut.is in
    let v = rw c.in-Shut.is at c.find_open.ensures.1 in
    (rw e, v.2)

pub returns-in-Not : goal.returns-in-Not
unfolding end_of
returns-in-Not c = let a = c.args in (
  rw
      (sym (opened_is (within_element a.bad a.d.now a.w.now a.at) c.find_open.ensures.0)
      ∙ ap read_of c.in-Not.is),
  tt,
)
