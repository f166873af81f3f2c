-- "One call, `read_definition`, reads both kinds. A file is XML when it begins with `<?xml` or `<sss`, alone or behind EF BB BF; everything
-- else is
-- a 1.1 definition, whose answers don't change." "Every refusal keeps all lent memory." What was read is a table of V rows and E lines, at
-- the start of the lent one: "Numbers beyond 6 + 20V + 4E are kept."
use Rattle.std.specs.Prelude.{◌≡◌, cond, List, ℕ, ℤ, length}
use Rattle.cells.specs.rule.Cell.{pasted}
use Rattle.survey.specs.rule.Table.{lines_all, table_of}
use Rattle.prologs.specs.rule.Told.{is_xml}
use Rattle.definition.specs.rule.Definition as sss
use Rattle.definition.specs.declared.Answer.{Answer}
use Rattle.definition.specs.declared.Answer.TheVariants as answer
use Rattle.xml_reading.specs.rule.Role.{variables_of}
use Rattle.xml_reading.specs.rule.Whole as xml

-- V, E and the numbers of the table; or a refusal's number and place
pub data DefinitionOutcome : Type 0 where
  Built : ℕ → ℕ → List ℤ → DefinitionOutcome
  Refusal : ℕ → ℕ → DefinitionOutcome

-- of a 1.1 definition
abbrev pub of_sss : sss.SssOutcome → DefinitionOutcome
of_sss (sss.Built l) = Built (length l) (lines_all l) (table_of l)
of_sss (sss.Refusal number place) = Refusal number place

-- of one in XML
abbrev pub of_xml : xml.XmlOutcome → DefinitionOutcome
of_xml (xml.Built l) = Built (length l) (lines_all (variables_of l)) (xml.xml_table l)
of_xml (xml.Refusal number place) = Refusal number place

-- for a lent table of n numbers
unfoldable pub definition_outcome : List ℕ → ℕ → DefinitionOutcome
definition_outcome d n = cond (is_xml d) (of_xml (xml.xml_outcome d n)) (of_sss (sss.sss_outcome d n))

-- ---- what the call answers, and what the table then holds
unfoldable pub answer_of : DefinitionOutcome → Answer
answer_of (Built v e s) = answer.Read v e
answer_of (Refusal number place) = answer.Refused number place

unfoldable pub table_after : DefinitionOutcome → List ℤ → List ℤ
table_after (Built v e s) t = pasted t 0 s
table_after (Refusal number place) t = t

-- THE PROMISE of the call, whose answer holds document 01's number and place: the answer, and the table afterwards
pub record DefinitionRead (d : List ℕ) (t t' : List ℤ) (a : Answer) : Type 0 where
  pub says : a ≡ answer_of (definition_outcome d (length t))
  pub leaves : t' ≡ table_after (definition_outcome d (length t)) t
