use mathlib.Core.Path.{sym, ap, ◌∙◌}
use Rattle.xml_reading.specs.rule.Sheet.{manner}
use Rattle.prefaces.specs.Code.{outer_of}
use Rattle.prefaces.proofs.Binds.{preface_read, prefaced_is}
use Rattle.prefaces.proofs.preface_on.Goals as goal

pub inner_on-requires : goal.inner_on-requires
inner_on-requires c = rw c.in-Is.is at c.read_manner.ensures.1

pub returns-in-Is : goal.returns-in-Is
unfolding outer_of
returns-in-Is c =
    let a = c.args in
    let x = manner a.bad a.d.now a.latin a.place a.end in
    let e = sym (prefaced_is x c.read_manner.ensures.0)
    ∙ ap preface_read c.in-Is.is in
    (rw e c.inner_on.ensures.0, c.inner_on.ensures.1)

pub returns-in-Not : goal.returns-in-Not
unfolding outer_of
returns-in-Not c =
    let a = c.args in
    let x = manner a.bad a.d.now a.latin a.place a.end in
    (rw (sym (prefaced_is x c.read_manner.ensures.0) ∙ ap preface_read c.in-Not.is), tt)
