use mathlib.Core.Path.{sym, ◌∙◌}
use Rattle.xml_reading.specs.rule.Sheet.{root}
use Rattle.prefaces.proofs.Places.{head_in}
use Rattle.prefaces.proofs.read_root.Goals as goal

pub root_at-requires : goal.root_at-requires
root_at-requires c =
    let a = c.args in
    (head_in a.bad a.latin a.d.now a.at _ _ c.requires
    (sym c.read_head.ensures ∙ c.in-Read.is)).inside

pub returns-in-Read : goal.returns-in-Read
unfolding root
returns-in-Read c =
    let a = c.args in
    let e = sym c.read_head.ensures ∙ c.in-Read.is in (
      rw (e, (head_in a.bad a.latin a.d.now a.at _ _ c.requires e).same) c.root_at.ensures.0,
      c.root_at.ensures.1,
    )

pub returns-in-Fault : goal.returns-in-Fault
unfolding root
returns-in-Fault c = (rw (sym c.read_head.ensures ∙ c.in-Fault.is), tt)
