use mathlib.Core.Path.{sym, ap, ◌∙◌}
use Rattle.elements.specs.Code.{due_read}
use Rattle.elements.proofs.Dues.{read_due}
use Rattle.xml_reading.specs.rule.Sheet.{root}
use Rattle.prefaces.proofs.Binds.{preface_is}
use Rattle.prefaces.proofs.read_preface.Goals as goal

pub preface_on-requires : goal.preface_on-requires
preface_on-requires c = rw c.in-At.is at c.read_root.ensures.1

pub returns-in-At : goal.returns-in-At
returns-in-At c =
    let a = c.args in
    let e = sym (read_due (root a.bad a.d.now a.latin a.at))
    ∙ ap due_read (sym c.read_root.ensures.0 ∙ c.in-At.is) in
    (rw (preface_is a.bad a.d.now a.latin a.at, e) c.preface_on.ensures.0, c.preface_on.ensures.1)

pub returns-in-Not : goal.returns-in-Not
returns-in-Not c =
    let a = c.args in
    let e = sym (read_due (root a.bad a.d.now a.latin a.at))
    ∙ ap due_read (sym c.read_root.ensures.0 ∙ c.in-Not.is) in
    (rw (preface_is a.bad a.d.now a.latin a.at, e), tt)
