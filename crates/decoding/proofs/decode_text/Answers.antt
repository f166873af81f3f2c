-- `decoding::decode_text` meets its contract.
use mathlib.Core.Path.{sym, ap, ◌∙◌}
use Rattle.scripts.specs.declared.Script.{Script}
use Rattle.decoding.specs.Both.{both_xml, both_plain}
use Rattle.decoding.proofs.decode_text.Goals as goal

pub returns-then-s : goal.returns-then-s
returns-then-s c =
    let e = c.script_of-s.ensures in
    both_xml _ _ _ (sym (ap (λ (s : Script). s.xml) e) ∙ c.if-s.true)
    (rw (sym (ap (λ (s : Script). s.latin) e)) c.decode_stretch.ensures)

pub returns : goal.returns
returns c =
    let e = c.script_of-s.ensures in
    both_plain _ _ _ (sym (ap (λ (s : Script). s.xml) e) ∙ c.if-s.false) c.decode_text.ensures
