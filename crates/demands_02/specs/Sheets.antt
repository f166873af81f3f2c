-- DEFINITIONS IN XML OVER THE PUBLIC CALL (C-15): it reads one exactly when the file is derived over the table of document 000's elements
-- with nothing charged, into the table of what is derived; it refuses one exactly where a derivation stops, with that number and place; and
-- every text of it decodes, by the numbers of the table.
use Rattle.std.specs.Prelude.{◌≡◌, ◌↔◌, ◌⊎◌, true, ℕ, ◌≤◌, ◌<◌, ℤ}
use Rattle.std.proofs.Math.Path.{refl, ap}
use Rattle.std.proofs.Common.{◌∙◌}
use mathlib.Core.List.{List, Memᴰ}
use Rattle.std.proofs.Math.ListN.{length}
use Rattle.bridge.specs.Lowest.{never}
use Rattle.cells.specs.rule.Cell.{pasted}
use Rattle.survey.specs.rule.Table.{lines_all}
use Rattle.prologs.specs.rule.Told.{is_xml}
use Rattle.definition.specs.declared.Answer.TheVariants as answer
use Rattle.xml_reading.specs.rule.Role.{XmlEntry, variables_of}
use Rattle.xml_reading.specs.rule.Whole as xml
use Rattle.xml_derivations.specs.Document.{Taken}
use Rattle.xml_derivation_laws.specs.Whole.{taken_exactly}
use Rattle.xml_refusals.specs.Whole.{Refused, refused_exactly}
use Rattle.xml_text_laws.specs.Decoded.{EntryDecodes, texts_decode}
use Rattle.xml_text_laws.specs.Tables.{RowDecodes, rows_decode}
use Rattle.kinds.specs.rule.Definition.{DefinitionOutcome, of_xml, definition_outcome, answer_of, table_after, DefinitionRead}
use Rattle.kind_laws.specs.Numbers as numbers

-- the answer and the table of a definition in XML that is taken
pub data SheetRead (d : List ℕ) (t : List ℤ) : List ℤ → ℕ → ℕ → Type 0 where
  sheet_read : {l : List XmlEntry} → Taken d (length t) l
      → SheetRead d t (pasted t 0 (xml.xml_table l)) (length l) (lines_all (variables_of l))

module _ (d : List ℕ) (t : List ℤ) (x : is_xml d ≡ true) where
  of_xml_lem : definition_outcome d (length t) ≡ of_xml (xml.xml_outcome d (length t))
  unfolding definition_outcome
  of_xml_lem = rw x

  read_of : (t' : List ℤ) {v e : ℕ} → DefinitionRead d t t' (answer.Read v e) → SheetRead d t t' v e
  unfolding answer_of table_after
  read_of t' {v} {e} p =
      by (xml.xml_outcome d (length t)) refl (p.says ∙ ap answer_of of_xml_lem)
      (p.leaves ∙ ap (λ (o : DefinitionOutcome). table_after o t) of_xml_lem) where
        by : (o : xml.XmlOutcome) → xml.xml_outcome d (length t) ≡ o → answer.Read v e ≡ answer_of (of_xml o) → t'
            ≡ table_after (of_xml o) t
            → SheetRead d t t' v e
        by (xml.Built l) o a b =
            let f : v ≡ length l = cc in
            let g : e ≡ lines_all (variables_of l) = cc in
            rw (b, f, g) (sheet_read ((taken_exactly d (length t) l).0 o))
        by (xml.Refusal k q) o a b = never cc

  of_read : {t' : List ℤ} {v e : ℕ} → SheetRead d t t' v e → DefinitionRead d t t' (answer.Read v e)
  unfolding answer_of table_after
  of_read (sheet_read {l} y) = let o = (taken_exactly d (length t) l).1 y in
      record { says = rw (of_xml_lem, o); leaves = rw (of_xml_lem, o) }

  -- READ: exactly when it is derived, nothing is charged, the names are good and the table is long enough
  pub sheets_exactly : (t' : List ℤ) (v e : ℕ) → DefinitionRead d t t' (answer.Read v e) ↔ SheetRead d t t' v e
  sheets_exactly t' v e = (read_of t', of_read)

  refused_of : (t' : List ℤ) {k p : ℕ} → DefinitionRead d t t' (answer.Refused k p) → (t' ≡ t) × Refused d (length t) k p
  unfolding answer_of table_after
  refused_of t' {k} {p} w =
      by (xml.xml_outcome d (length t)) refl (w.says ∙ ap answer_of of_xml_lem)
      (w.leaves ∙ ap (λ (o : DefinitionOutcome). table_after o t) of_xml_lem) where
        by : (o : xml.XmlOutcome) → xml.xml_outcome d (length t) ≡ o → answer.Refused k p ≡ answer_of (of_xml o) → t'
            ≡ table_after (of_xml o) t
            → (t' ≡ t) × Refused d (length t) k p
        by (xml.Built l) o a b = never cc
        by (xml.Refusal i j) o a b =
            let f : k ≡ i = cc in
            let g : p ≡ j = cc in
            (b, (refused_exactly d (length t) k p).0 (o ∙ rw (f, g)))

  of_refused : {t' : List ℤ} {k p : ℕ} → (t' ≡ t) × Refused d (length t) k p → DefinitionRead d t t' (answer.Refused k p)
  unfolding answer_of table_after
  of_refused {k = k} {p = p} y =
      let o = (refused_exactly d (length t) k p).1 y.1 in
      record { says = rw (of_xml_lem, o); leaves = rw (of_xml_lem, o) y.0 }

  -- REFUSED EXACTLY: with this number at this place exactly where a derivation stops so, or by length, declaration, names or the lent
  -- table, which is kept
  pub sheets_refused_exactly : (t' : List ℤ) (k p : ℕ)
      → DefinitionRead d t t' (answer.Refused k p) ↔ ((t' ≡ t) × Refused d (length t) k p)
  sheets_refused_exactly t' k p = (refused_of t', of_refused)

  -- REFUSED: with 1, 2, 4 to 10 or 50 to 52
  pub sheets_refused : {t' : List ℤ} {k p : ℕ} → DefinitionRead d t t' (answer.Refused k p)
      → ((1 ≤ k) × (k ≤ 10) × (k ≡ 3 → ⊥)) ⊎ ((50 ≤ k) × (k ≤ 52))
  sheets_refused w = numbers.numbers_in_xml w x

-- every name, label and line of a definition in XML that was read is decoded as it was derived, never 3
pub sheet_texts_decode : (d : List ℕ) (n : ℕ) (l : List XmlEntry) → is_xml d ≡ true → xml.xml_outcome d n ≡ xml.Built l → (v : XmlEntry)
    → Memᴰ v l → EntryDecodes d v
sheet_texts_decode = texts_decode

-- the same by the numbers of the table: row i of what was read, and its lines
pub sheet_table_decodes : {d : List ℕ} {t t' : List ℤ} {v e : ℕ} → is_xml d ≡ true → DefinitionRead d t t' (answer.Read v e) → (i : ℕ)
    → i < v → RowDecodes d t' v i
unfolding answer_of table_after
sheet_table_decodes {d} {t} {t'} {v} {e} x w i h =
    by (xml.xml_outcome d (length t)) refl (w.says ∙ ap answer_of (of_xml_lem d t x))
    (w.leaves ∙ ap (λ (o : DefinitionOutcome). table_after o t) (of_xml_lem d t x)) where
      by : (o : xml.XmlOutcome) → xml.xml_outcome d (length t) ≡ o → answer.Read v e ≡ answer_of (of_xml o) → t' ≡ table_after (of_xml o) t
          → RowDecodes d t' v i
      by (xml.Built l) o a b =
          let f : v ≡ length l = cc in
          rw (b, f) (rows_decode d t l x o i (rw f at h))
      by (xml.Refusal k q) o a b = never cc
