-- THE LAWS OF 1.1'S DEFINITIONS OVER THE PUBLIC CALL, which reads both kinds (C-11, C-17): what 1.1's own reader is proved to do, the
-- public call does, since a definition that reader builds a table from is not XML.
use Rattle.std.specs.Prelude.{◌≡◌, ◌↔◌, false, List, ◌++◌, ℕ, ◌≤◌, ◌<◌, ℤ, length, drop}
use Rattle.std.proofs.Common.{le_refl}
use Rattle.cells.specs.rule.Cell.{cell}
use Rattle.survey.specs.rule.Survey.{Survey}
use Rattle.survey.specs.rule.Table.{table_of}
use Rattle.definition.specs.declared.Answer.{Answer}
use Rattle.definition.specs.declared.Answer.TheVariants as answer
use Rattle.prologs.specs.rule.Told.{is_xml}
use Rattle.kinds.specs.rule.Definition.{DefinitionRead}
use Rattle.kinds.proofs.Plain.{plain_read}
use Rattle.kinds.specs.Other.{built_plain}
use Rattle.grammar_laws.specs.Outcome.{Called, call_exactly}
use Rattle.text_laws.specs.Tables.{RowDecodes, table_decodes}
use Rattle.clean_laws.specs.rule.Texts.{text_at}
use Rattle.clean_laws.specs.rule.Reads.{Reads}
use Rattle.clean.specs.declared.Written.{Written}
use Rattle.clean.specs.declared.Written.TheVariants.{Done}
use Rattle.clean.specs.rule.Written.{DefinitionWritten}
use Rattle.write_laws.specs.rule.Output.{SaysSame}

-- a definition that is read as a survey of 1.1 is not XML
pub reads_plain : {d : List ℕ} {s : Survey} → Reads d s → is_xml d ≡ false
reads_plain {d} {s} r = let n = length (table_of s.variables) in built_plain d n s.variables (r.built n (le_refl n))

-- a clean text and what it was made of, read by the public call into one lent table: the same answer, and tables that agree but for text
-- places and lengths; and written again, with the table that its own reading leaves, it comes out byte for byte
module _ {d c : List ℕ} {s : Survey} {n : ℕ} (read : Reads d s) (same : SaysSame d c s n) where
  pub clean_read_alike : {u u₁ u₂ : List ℤ} {a₁ a₂ : Answer} → length (table_of s.variables) ≤ length u
      → DefinitionRead d u u₁ a₁ → DefinitionRead c u u₂ a₂
      → (a₂ ≡ a₁) × ((k : ℕ) → text_at (length s.variables) k ≡ false → cell u₂ k ≡ cell u₁ k)
  clean_read_alike {u} {u₁} {u₂} {a₁} {a₂} room p q =
      same.called room ((plain_read d (reads_plain read) u u₁ a₁).0 p) ((plain_read c (reads_plain same.reads) u u₂ a₂).0 q)

  pub clean_written_again : {u u' : List ℤ} {a : Answer} {out out' : List ℕ} {w : Written} → length (table_of s.variables) ≤ length u
      → DefinitionRead c u u' a → n ≤ length out → DefinitionWritten c u' out out' w → (w ≡ Done n) × (out' ≡ c ++ drop n out)
  clean_written_again {u} {u'} {a} room p fits w = same.again room ((plain_read c (reads_plain same.reads) u u' a).0 p) fits w

-- the texts of a table that the public call read from a definition of 1.1 are decoded, none refused by 3
pub texts_decoded : {d : List ℕ} {t t' : List ℤ} {v e : ℕ} → is_xml d ≡ false → DefinitionRead d t t' (answer.Read v e) → (i : ℕ) → i < v
    → RowDecodes d t' v i
texts_decoded {d} {t} {t'} {v} {e} plain p = table_decodes ((plain_read d plain t t' (answer.Read v e)).0 p)

-- and it is read, or refused, exactly as document 01's grammar has it
pub read_exactly : (d : List ℕ) (t t' : List ℤ) (a : Answer) → is_xml d ≡ false → DefinitionRead d t t' a ↔ Called d t t' a
read_exactly d t t' a plain = (
  λ p. (call_exactly d t t' a).0 ((plain_read d plain t t' a).0 p),
  λ q. (plain_read d plain t t' a).1 ((call_exactly d t t' a).1 q),
)
