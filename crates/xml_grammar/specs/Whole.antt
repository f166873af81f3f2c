-- THE WHOLE: a definition in XML is read as the table of document 000 (Grammar.antt) says, element by element, and every refusal is the
-- same, number and place. Before `<sss` stand the declaration and the DOCTYPE, behind `</sss>` what may follow: crate `prologs`.
use Rattle.std.specs.Prelude.{Bool, cond, List, ℕ, ltb, length, take}
use Rattle.utf.specs.rule.Cut.{first_bad}
use Rattle.prologs.specs.rule.Told.{declaration_of, tail_from}
use Rattle.prologs.specs.declared.Prolog.{Prolog}
use Rattle.prologs.specs.declared.Prolog.TheVariants as prolog
use Rattle.reading.specs.rule.Result.{Reader, ◌>>=◌, ◌>>◌, give}
use Rattle.xml_reading.specs.rule.Sheet.{XmlSurvey, root, cleared}
use Rattle.xml_reading.specs.rule.Whole.{XmlOutcome, Refusal, xml_settled}
use Rattle.xml_grammar.specs.Grammar.{Sss}
use Rattle.xml_grammar.specs.Reader.{element}
use Rattle.xml_grammar.specs.Meaning.{State, meanings}
use Rattle.xml_grammar.specs.Surveys.{unknown}

module _ (bad : Bool) (d : List ℕ) where
  -- elements stand in each other six deep: sss, survey, record, variable, values, value
  abbrev pub depth : ℕ
  depth = 6

  -- what may follow, and what was said
  abbrev pub tail : Reader Unit
  tail n = cleared bad d (tail_from bad d n) n

  abbrev pub last : State → Reader XmlSurvey
  last s = tail >> give (record { manner = s.manner; entries = s.entries })

  -- the reading by the table
  abbrev pub sheet_by : Bool → Reader XmlSurvey
  sheet_by latin = root bad d latin >>= λ p. element bad d (meanings d) depth Sss (unknown bad d 0 latin) p >>= last

-- ---- the outcome of a definition and a lent table of n numbers, with the sheet read by the table
abbrev pub sheet_of_by : Bool → List ℕ → ℕ → ℕ → XmlOutcome
sheet_of_by latin d at n =
    let q = first_bad latin d at in
    xml_settled latin (take q d) n (sheet_by (ltb q (length d)) (take q d) latin at)

abbrev pub declared_by : List ℕ → ℕ → Prolog → XmlOutcome
declared_by d n (prolog.Read latin at) = sheet_of_by latin d at n
declared_by d n (prolog.Fault number p) = Refusal number p

abbrev pub outcome_by : List ℕ → ℕ → XmlOutcome
outcome_by d n = cond (ltb 1048576 (length d)) (Refusal 1 0) (declared_by d n (declaration_of d))
