use mathlib.Core.Path.{sym, ◌∙◌}
use Rattle.xml_reading.specs.rule.Sheet.{record_tag}
use Rattle.xml_reading.specs.rule.Word.{RECORD}
use Rattle.prefaces.specs.Code.{rule_of}
use Rattle.elements.proofs.Dues.{due_then}
use Rattle.prefaces.proofs.Binds.{due_in}
use Rattle.prefaces.proofs.record_on.Goals as goal

pub read_record-requires : goal.read_record-requires
read_record-requires c =
    let a = c.args in
    due_in a.bad a.d.now RECORD a.o _ _ c.requires (sym c.tag_due.ensures ∙ c.in-At.is)

pub returns-in-At : goal.returns-in-At
returns-in-At c =
    let a = c.args in
    let e = sym c.tag_due.ensures ∙ c.in-At.is in (
      rw (due_then a.bad a.d.now RECORD a.o (record_tag a.bad a.d.now (rule_of a.m)), e) c.read_record.ensures.0,
      c.read_record.ensures.1,
    )

pub returns-in-Not : goal.returns-in-Not
returns-in-Not c =
    let a = c.args in
    let e = sym c.tag_due.ensures ∙ c.in-Not.is in
    (rw (due_then a.bad a.d.now RECORD a.o (record_tag a.bad a.d.now (rule_of a.m)), e), tt)
