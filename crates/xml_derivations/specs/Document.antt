-- A DEFINITION IN XML AS A WHOLE: "1 is first of all"; the declaration; a DOCTYPE or none; the root; "Behind `</sss>` only white space and
-- comments". Every character is legal.
use Rattle.std.specs.Prelude.{◌≡◌, Bool, true, false, List, [], ℕ, ◌≤◌, length, drop}
use Rattle.utf.specs.rule.Chars.{Chars}
use Rattle.names.specs.rule.Standard.{name_fault}
use Rattle.prologs.specs.declared.Prolog.TheVariants as prolog
use Rattle.prologs.specs.declared.Tail.TheVariants as tail
use Rattle.prologs.proofs.Whole.{Declared, Headed, Tailed}
use Rattle.reading.specs.rule.Least.{Charge}
use Rattle.grammar.specs.Faults.{Clean}
use Rattle.xml_reading.specs.rule.Role.{XmlEntry}
use Rattle.xml_reading.specs.rule.Sheet.{XmlSurvey}
use Rattle.xml_reading.specs.rule.Whole.{xml_names, xml_table}
use Rattle.xml_grammar.specs.Grammar.{Sss}
use Rattle.xml_grammar.specs.Meaning.{State, between}
use Rattle.xml_derivations.specs.Derivation.{the, Says}

-- before the root nothing was said but the encoding
abbrev pub unsaid : Bool → State
unsaid latin = between (record { old = false; languages = false; standard = false; latin = latin }) []

abbrev pub survey_of : State → XmlSurvey
survey_of t = record { manner = t.manner; entries = t.entries }

-- from behind the declaration, at n, to behind the root's end tag
pub data Document (latin : Bool) (d : List ℕ) (n : ℕ) : List Charge → XmlSurvey → ℕ → Type 0 where
  document : {l : Bool} {k m : ℕ} {c : List Charge} {t : State} → Headed false latin d n (prolog.Read l k)
      → Says d (the Sss) (unsaid latin) k c t m → Tailed false d m tail.Clean → Document latin d n c (survey_of t) m

-- ---- the file: its bytes, its declaration, its characters, its root
pub data Definition (d : List ℕ) (latin : Bool) : List Charge → XmlSurvey → Type 0 where
  definition : {n m : ℕ} {cs : List ℕ} {c : List Charge} {s : XmlSurvey} → length d ≤ 1048576 → Declared d (prolog.Read latin n)
      → Chars latin cs (drop n d) → Document latin d n c s m → Definition d latin c s

-- "with standardnames, 9": no name is at fault where they are asked for
abbrev pub Named : List ℕ → Bool → XmlSurvey → Type 0
Named d latin s = s.manner.standard ≡ true → length s.entries ≤ name_fault (xml_names latin d s.entries)

-- a definition that is taken, with a lent table of n numbers: nothing is charged, the names are good, "10 lent table too short" is not met
pub data Taken (d : List ℕ) (n : ℕ) : List XmlEntry → Type 0 where
  taken : {latin : Bool} {c : List Charge} {s : XmlSurvey} → Definition d latin c s → Clean c → Named d latin s
      → length (xml_table s.entries) ≤ n → Taken d n s.entries
