-- "No two outcomes" for the test of a table, the next record and the judgement of a file. Those of reading and judging a record stand in
-- crate `read_laws` (value-settled, verdict-settled), that of writing in Writing (one-outcome), those of the face in `zarfolin`.
use Rattle.std.proofs.Math.Path.{◌≡◌, refl}
use Rattle.std.proofs.Common.{sym, ap, ◌∙◌, arith}
use Rattle.std.specs.Prelude.{Bool, false, cond, List, ℕ, eqb, ℤ, length}
use Rattle.std.proofs.Math.Bool.{true}
use Rattle.cells.specs.rule.Cell.{pasted}
use Rattle.sound.specs.rule.Sound.{well_formed, TableTested}
use Rattle.cuts.specs.rule.Cut.{NextFound}
use Rattle.cuts.specs.declared.Next.{Next}
use Rattle.records.specs.rule.Verdict.{Verdict, sound, refused, low_byte, bad_field, judged_as}
use Rattle.records.specs.declared.Judged.{Judged}
use Rattle.records.specs.declared.Judged.TheVariants as judged
use Rattle.definition.specs.declared.Answer.TheVariants as definition
use Rattle.definition.proofs.Goods.{read_well_formed}
use Rattle.definition.specs.rule.Definition as sss
use Rattle.prologs.specs.rule.Told.{is_xml}
use Rattle.xml_reading.specs.rule.Role.{XmlEntry}
use Rattle.xml_reading.specs.rule.Whole as xml
use Rattle.xml_files.proofs.Few as few
use Rattle.kinds.specs.rule.Definition.{of_xml, definition_outcome, answer_of, table_after, DefinitionRead}
use Rattle.kinds.proofs.Plain.{plain_read}
use Rattle.files.specs.declared.Judgement.{Judgement}
use Rattle.files.specs.declared.Judgement.TheVariants as J
use Rattle.files.specs.rule.File.{FileVerdict, sound_with, bad_table, fault_in, file_said, FileJudged}

pub table_settled : {t : List ℤ} {r₁ r₂ : Bool} → TableTested t r₁ → TableTested t r₂ → r₁ ≡ r₂
table_settled a b = a.says ∙ sym b.says

pub next_settled : {d : List ℕ} {from : ℕ} {r₁ r₂ : Next} → NextFound d from r₁ → NextFound d from r₂ → r₁ ≡ r₂
next_settled a b = a.says ∙ sym b.says

-- the answer that says a verdict on a file
abbrev unfault : ℕ → Verdict → Judgement
unfault n sound = J.Fault n judged.Sound
unfault n (refused k) =
    cond (eqb k 30) (J.Unended n) (cond (eqb k 31) (J.OtherLength n) (J.Fault n (cond (eqb k 20) judged.BadTable judged.ShortRecord)))
unfault n (low_byte p) = J.Fault n (judged.LowByte p)
unfault n (bad_field i x) = J.Fault n (judged.Faulty i x)

abbrev unsaid : FileVerdict → Judgement
unsaid (sound_with n) = J.Sound n
unsaid bad_table = J.BadTable
unsaid (fault_in n v) = unfault n v

fault_back : (n : ℕ) (j : Judged) → unfault n (judged_as j) ≡ J.Fault n j
unfolding judged_as
fault_back n judged.Sound = refl
fault_back n judged.BadTable = refl
fault_back n judged.ShortRecord = refl
fault_back n (judged.LowByte p) = refl
fault_back n (judged.Faulty i x) = refl

said_back : (a : Judgement) → unsaid (file_said a) ≡ a
unfolding file_said
said_back (J.Sound n) = refl
said_back J.BadTable = refl
said_back (J.Unended n) = refl
said_back (J.OtherLength n) = refl
said_back (J.Fault n j) = fault_back n j

-- JUDGING A FILE: one answer
pub file_one : {t : List ℤ} {d : List ℕ} {v₁ v₂ : FileVerdict} → FileJudged t d v₁ → FileJudged t d v₂ → v₁ ≡ v₂
file_one a b = a.says ∙ sym b.says

pub file_settled : {t : List ℤ} {d : List ℕ} (r₁ r₂ : Judgement) → FileJudged t d (file_said r₁) → FileJudged t d (file_said r₂) → r₁ ≡ r₂
file_settled r₁ r₂ a b = sym (said_back r₁) ∙ ap unsaid (file_one a b) ∙ said_back r₂

-- WHAT IS READ IS WELL FORMED: the table that the call leaves passes the test of every call on records
module _ {d : List ℕ} {t t' : List ℤ} {v e : ℕ} where
  sss_formed : sss.SssRead d t t' (definition.Read v e) → well_formed t' ≡ true
  unfolding sss.sss_answer
  sss_formed w = go (sss.sss_outcome d (length t)) refl w.says where
    go : (o : sss.SssOutcome) → sss.sss_outcome d (length t) ≡ o → definition.Read v e ≡ sss.sss_answer o → well_formed t' ≡ true
    go (sss.Built l) q f = rw w.leaves (read_well_formed d t l q)
    go (sss.Refusal k at) q f = let z : ◌≡◌ {A = ℕ} 0 1 = cc in absurd (omega arith)

  -- of a 1.1 definition
  pub plain_well_formed : is_xml d ≡ false → DefinitionRead d t t' (definition.Read v e) → well_formed t' ≡ true
  plain_well_formed p w = sss_formed ((plain_read d p t t' (definition.Read v e)).0 w)

  -- of one in XML
  pub xml_well_formed : is_xml d ≡ true → DefinitionRead d t t' (definition.Read v e) → well_formed t' ≡ true
  unfolding definition_outcome answer_of table_after
  xml_well_formed p w = go (xml.xml_outcome d (length t)) refl (w.says ∙ rw p) (w.leaves ∙ rw p) where
    go : (o : xml.XmlOutcome) → xml.xml_outcome d (length t) ≡ o → definition.Read v e ≡ answer_of (of_xml (xml.xml_outcome d (length t)))
        → t' ≡ table_after (of_xml (xml.xml_outcome d (length t))) t → well_formed t' ≡ true
    go (xml.Built l) q f k = rw (k, q) (few.xml_well_formed d t l q)
    go (xml.Refusal m at) q f k = let g : definition.Read v e ≡ answer_of (of_xml (xml.Refusal m at)) = f ∙ rw q in
        let z : ◌≡◌ {A = ℕ} 0 1 = cc in absurd (omega arith)

  -- of both kinds
  pub definition_well_formed : DefinitionRead d t t' (definition.Read v e) → well_formed t' ≡ true
  definition_well_formed w = by (is_xml d) refl where
    by : (b : Bool) → is_xml d ≡ b → well_formed t' ≡ true
    by true x = xml_well_formed x w
    by false x = plain_well_formed x w
