-- "variable(name, label, position, filter?, then single, quantity: values; multiple: spread?, values; character: size; logical: nothing)."
-- "Version 1.1 has no .. filter." "Width after `</variable>`", 7 at start's value.
use Rattle.std.specs.Prelude.{Bool, true, false, cond, List, ℕ, eqb}
use Rattle.std.proofs.Math.Option.{Option, none, some}
use Rattle.survey.specs.rule.Survey.{KeptText, Content, single, multiple, quantity, character, logical, Spread, Block}
use Rattle.survey.specs.rule.Table.{lines_all}
use Rattle.reading.specs.rule.Result.{Reader, ◌>>=◌, ◌>>◌, give}
use Rattle.reading.specs.rule.Statement.{Position}
use Rattle.reading.specs.rule.Variable.{room, variable_of, held}
use Rattle.xml_reading.specs.rule.Word.{VARIABLE, NAME, LABEL, POSITION, FILTER, SPREAD, VALUES, SIZE}
use Rattle.xml_reading.specs.rule.Open.{Open, within_element, either_element, due, over}
use Rattle.xml_reading.specs.rule.Element.{text, position, spread, size}
use Rattle.xml_reading.specs.rule.Block.{rich, values}
use Rattle.xml_reading.specs.rule.Role.{XmlEntry, variables_of, title, naming, filter}

-- what the preface says that the variables go by: version 1.1, languages, standardnames; and the file's encoding
pub record Manner : Type 0 where
  pub old : Bool
  pub languages : Bool
  pub standard : Bool
  pub latin : Bool

-- what was read, and what stands behind it
pub record Then (A : Type 0) : Type 0 where
  pub it : A
  pub behind : Open

abbrev pub with : {A : Type 0} → A → Open → Then A
with a o = record { it = a; behind = o }

module _ (bad : Bool) (d : List ℕ) (m : Manner) where
  abbrev pub inside : Reader Open
  inside = within_element bad d VARIABLE

  -- a filter or none, and what stands behind it
  unfoldable pub filtered : List XmlEntry → KeptText → ℕ → Open → Reader (Then ℕ)
  filtered earlier name usage o =
      cond m.old (give (with 0 o))
      (either_element bad d FILTER o
      (λ p. filter bad d m.latin m.standard earlier name usage p >>= λ f. inside >>= λ o. give (with f o))
      (give (with 0 o)))

  -- a spread or none
  unfoldable pub spreading : ℕ → Open → Reader (Then (Option Spread))
  spreading room o =
      either_element bad d SPREAD o
      (λ p. spread bad d room p >>= λ s. inside >>= λ o. give (with (some s) o))
      (give (with none o))

  abbrev pub block : Bool → ℕ → Open → Reader Block
  block isQuantity before o = due bad d VALUES o (values bad d m.languages isQuantity before)

  -- by type, with the end tag of the variable
  abbrev pub ended : Content → Reader Content
  ended c = inside >>= λ o. over bad d o >> give c

  unfoldable pub content : Position → ℕ → ℕ → Open → Reader Content
  content p before t o =
      cond (eqb t 1) (block false before o >>= λ b. ended (single b))
      (cond (eqb t 2) (spreading (room p) o >>= λ s. block false before s.behind >>= λ b. ended (multiple s.it b))
      (cond (eqb t 3) (block true before o >>= λ b. ended (quantity b))
      (cond (eqb t 4) (due bad d SIZE o (size bad d) >>= λ n. ended (character n))
      (over bad d o >> give logical))))

  -- from behind the name of its start tag on
  unfoldable pub variable : List XmlEntry → ℕ → Reader XmlEntry
  variable earlier q = do
    t ← title bad d m.old earlier q
    o ← inside
    name ← due bad d NAME o (naming bad d m.latin m.standard earlier)
    o ← inside
    label ← due bad d LABEL o (text bad d LABEL (rich m.languages))
    o ← inside
    p ← due bad d POSITION o (position bad d)
    o ← inside
    f ← filtered earlier name t.usage o
    c ← content p (lines_all (variables_of earlier)) t.type f.behind
    held (variable_of t.ident name label p c) >>= λ v. give (record { variable = v; usage = t.usage; filter = f.it })
