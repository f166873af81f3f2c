use mathlib.Core.Path.{sym, ◌∙◌}
use Rattle.xml_reading.specs.rule.Sheet.{record_tag}
use Rattle.prefaces.specs.Code.{rule_of}
use Rattle.xml_reading.specs.rule.Word.{IDENT, HREF}
use mathlib.Core.Bool.{cond}
use mathlib.Core.List.{[]}
use Rattle.prefaces.proofs.Places.{record_read, enter_in}
use Rattle.elements.proofs.Bounds.{tag_within}
use Rattle.prefaces.proofs.read_record.Goals as goal

pub returns-in-Read : goal.returns-in-Read
returns-in-Read c =
    let a = c.args in
    let e = sym c.record_tag.ensures ∙ c.in-Read.is in
    let t = tag_within a.bad a.d.now a.opened IDENT (cond a.m.old [] HREF) [] 3 0 0 1 a.at _ _ _ _ e in (
      rw (record_read a.bad a.d.now (rule_of a.m) a.opened a.at e) c.enter_tag.ensures,
      rw c.enter_tag.ensures (enter_in a.d.now _ _ _ _ t.2),
    )

pub returns-in-Fault : goal.returns-in-Fault
unfolding record_tag
returns-in-Fault c = (rw (sym c.record_tag.ensures ∙ c.in-Fault.is), tt)
