-- `import_names::same_name` meets its contract.
use mathlib.Core.Path.{sym, ap, ◌∙◌}
use mathlib.Core.List.{List}
use mathlib.Core.Bool.{false}
use Prim.Native.Nat.{ℕ}
use Rattle.scripts.specs.declared.Script.{Script}
use Rattle.import_rule.specs.rule.Text.{same_bytes}
use Rattle.import_lines.specs.Undoubled.{undoubled}
use Rattle.name_line.specs.rule.Names.{xml_text}
use Rattle.name_line.specs.Names.{name_xml, name_plain}
use Rattle.import_names.proofs.same_name.Goals as goal

pub returns-then-s : goal.returns-then-s
returns-then-s c =
    let a = c.args in
    let e = c.script_of-s.ensures in
    c.same_xml.ensures
    ∙ ap (λ (s : List ℕ). same_bytes s (undoubled false a.raw.now))
    (ap (λ (s : Script). xml_text s.latin a.def.now a.place a.long) e
    ∙ sym (name_xml a.def.now a.place a.long (sym (ap (λ (s : Script). s.xml) e) ∙ c.if-s.true)))

pub returns : goal.returns
returns c =
    let a = c.args in
    let e = c.script_of-s.ensures in
    c.same_plain.ensures
    ∙ ap (λ (s : List ℕ). same_bytes s (undoubled false a.raw.now))
    (sym (name_plain a.def.now a.place a.long (sym (ap (λ (s : Script). s.xml) e) ∙ c.if-s.false)))
