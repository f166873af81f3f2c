-- `name_line::send_name` meets its contract.
use mathlib.Core.Path.{sym, ap, ◌∙◌}
use Rattle.commas.specs.rule.Csv.{field_bytes}
use Rattle.sink.specs.Sent.{sent_as}
use Rattle.scripts.specs.declared.Script.{Script}
use Rattle.name_line.specs.rule.Names.{xml_text}
use Rattle.name_line.specs.Names.{name_xml, name_plain}
use Rattle.name_line.proofs.send_name.Goals as goal

pub returns-then-s : goal.returns-then-s
returns-then-s c =
    let a = c.args in
    let e = c.requires.s_value in
    sent_as c.send_xml.ensures (ap field_bytes (ap (λ (s : Script). xml_text s.latin a.d.now a.place a.long) e
    ∙ sym (name_xml a.d.now a.place a.long (sym (ap (λ (s : Script). s.xml) e) ∙ c.if-s.true))))

pub returns : goal.returns
returns c =
    let a = c.args in
    let e = c.requires.s_value in
    sent_as c.send_plain.ensures (ap field_bytes (sym (name_plain a.d.now a.place a.long
    (sym (ap (λ (s : Script). s.xml) e) ∙ c.if-s.false))))
