-- WHAT 1.1 SAYS DOESN'T CHANGE: of a definition that is not XML the calls for both kinds promise just what those of 1.1 do, so that every
-- law of
-- these is one of those. And a table's mark tells which kind of definition it is held against.
use Rattle.std.specs.Prelude.{◌≡◌, refl, ◌↔◌, Bool, true, false, cond, ◌&&◌, List, [], ◌∷◌, ℕ, ℤ, pos, length}
use Rattle.std.proofs.Common.{sym, ◌∙◌}
use Rattle.std.proofs.Math.Path.{ap}
use Rattle.below.specs.Below.{and_left, holds_not}
use Rattle.cells.specs.rule.Cell.{cell, eq_z}
use Rattle.cells.specs.Cell.{same_true}
use Rattle.layout.specs.rule.Layout.{mark, mark_xml, line_base, most_rows, most_lines}
use Rattle.rows.specs.rule.Cells.{header_cells}
use Rattle.survey.specs.rule.Table.{header_for, table_of}
use Rattle.laying.specs.rule.Begins.{begins_table}
use Rattle.prologs.specs.rule.Told.{is_xml}
use Rattle.definition.specs.declared.Answer.{Answer}
use Rattle.definition.specs.declared.Against.{Against}
use Rattle.definition.specs.declared.Against.TheVariants.{Same, Other}
use Rattle.definition.specs.rule.Definition as sss
use Rattle.definition.specs.rule.Against.{is_same}
use Rattle.definition.specs.rule.Against as sss-against
use Rattle.xml_reading.specs.rule.Whole as xml
use Rattle.kinds.specs.rule.Definition.{DefinitionOutcome, Built, Refusal, of_sss, of_xml, definition_outcome, answer_of, table_after}
use Rattle.kinds.specs.rule.Definition.{DefinitionRead}
use Rattle.kinds.specs.rule.Against.{held, against_of, yields}
use Rattle.kinds.specs.Code.{mark_of}

answer_same : (o : sss.SssOutcome) → answer_of (of_sss o) ≡ sss.sss_answer o
unfolding answer_of sss.sss_answer
answer_same (sss.Built l) = refl
answer_same (sss.Refusal k p) = refl

table_same : (o : sss.SssOutcome) (t : List ℤ) → table_after (of_sss o) t ≡ sss.sss_table_after o t
unfolding table_after sss.sss_table_after
table_same (sss.Built l) t = refl
table_same (sss.Refusal k p) t = refl

held_same : (o : sss.SssOutcome) (t : List ℤ) → held (of_sss o) t ≡ sss-against.sss_held o t
held_same (sss.Built l) t = refl
held_same (sss.Refusal k p) t = refl

module _ (d : List ℕ) (plain : is_xml d ≡ false) where
  pub plain_outcome : (n : ℕ) → definition_outcome d n ≡ of_sss (sss.sss_outcome d n)
  unfolding definition_outcome
  plain_outcome n = rw plain

  answer_is : (n : ℕ) → answer_of (definition_outcome d n) ≡ sss.sss_answer (sss.sss_outcome d n)
  answer_is n = ap answer_of (plain_outcome n) ∙ answer_same (sss.sss_outcome d n)

  table_is : (n : ℕ) (t : List ℤ) → table_after (definition_outcome d n) t ≡ sss.sss_table_after (sss.sss_outcome d n) t
  table_is n t = ap (λ (o : DefinitionOutcome). table_after o t) (plain_outcome n) ∙ table_same (sss.sss_outcome d n) t

  pub plain_read : (t t' : List ℤ) (a : Answer) → DefinitionRead d t t' a ↔ sss.SssRead d t t' a
  plain_read t t' a = (to, from) where
    to : DefinitionRead d t t' a → sss.SssRead d t t' a
    to p = record { says = p.says ∙ answer_is (length t); leaves = p.leaves ∙ table_is (length t) t }

    from : sss.SssRead d t t' a → DefinitionRead d t t' a
    from p = record { says = p.says ∙ sym (answer_is (length t)); leaves = p.leaves ∙ sym (table_is (length t) t) }

  pub plain_against : (t : List ℤ) → against_of d t ≡ sss-against.sss_against d t
  unfolding against_of sss-against.sss_against
  plain_against t =
      let n = line_base most_rows most_lines in
      ap (λ (o : DefinitionOutcome). held o t) (plain_outcome n) ∙ held_same (sss.sss_outcome d n) t

  pub plain_yields : (t : List ℤ) → yields d t ≡ sss-against.sss_yields d t
  unfolding yields sss-against.sss_yields
  plain_yields t = ap is_same (plain_against t)

-- ---- "Mark 11 goes with a 1.1 definition, mark 12 with an XML one; any other pairing is 40"
first_is : (x : ℤ) (s t : List ℤ) → begins_table (x ∷ s) t ≡ true → cell t 0 ≡ x
unfolding begins_table
first_is x s [] h = holds_not h refl
first_is x s (y ∷ t) h = sym (same_true x y (and_left (eq_z x y) (begins_table s t) h))

same_begins : (b : Bool) → is_same (cond b Same Other) ≡ true → b ≡ true
same_begins true h = refl
same_begins false h = h

sss_mark : (o : sss.SssOutcome) (t : List ℤ) → is_same (held (of_sss o) t) ≡ true → cell t 0 ≡ pos mark
unfolding table_of header_for header_cells
sss_mark (sss.Built l) t h = first_is (pos mark) _ t (same_begins (begins_table (table_of l) t) h)
sss_mark (sss.Refusal k p) t h = holds_not h refl

xml_mark : (o : xml.XmlOutcome) (t : List ℤ) → is_same (held (of_xml o) t) ≡ true → cell t 0 ≡ pos mark_xml
unfolding xml.xml_table xml.xml_header header_cells
xml_mark (xml.Built l) t h = first_is (pos mark_xml) _ t (same_begins (begins_table (xml.xml_table l) t) h)
xml_mark (xml.Refusal k p) t h = holds_not h refl

pub mark_pairs : (d : List ℕ) (t : List ℤ) → yields d t ≡ true → cell t 0 ≡ pos (mark_of (is_xml d))
unfolding yields against_of definition_outcome mark_of
mark_pairs d t = by (is_xml d) where
  by : (b : Bool) → is_same (held (cond b (of_xml (xml.xml_outcome d (line_base most_rows most_lines)))
      (of_sss (sss.sss_outcome d (line_base most_rows most_lines)))) t) ≡ true
      → cell t 0 ≡ pos (cond b mark_xml mark)
  by true = xml_mark (xml.xml_outcome d (line_base most_rows most_lines)) t
  by false = sss_mark (sss.sss_outcome d (line_base most_rows most_lines)) t
