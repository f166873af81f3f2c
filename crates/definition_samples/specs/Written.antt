-- "Reading a definition", from texts that are read: the forms in which the paper lets a definition be written, by computation. Each text
-- is read into a table of 100 numbers; what is shown is the answer, how many variables and value lines it has.
use Rattle.std.specs.Prelude.{◌≡◌, refl, List, ◌++◌, ℕ}
use Prim.Native.String.{String}
use Rattle.definition.specs.declared.Answer.TheVariants as answer
use Rattle.definition.specs.rule.Definition.{sss_outcome, sss_answer}
use Rattle.definition_samples.specs.Bytes.{bytes}
use Rattle.definition_samples.specs.Definitions.{definitions}
use Rattle.definition_samples.specs.Refused.{after_version, variable}

abbrev Reads : List ℕ → ℕ → ℕ → Type 0
Reads d rows lines = sss_answer (sss_outcome d 100) ≡ answer.Read rows lines

-- a variable with nothing behind its position, and the ends
abbrev rest : String
rest = "VARIABLE 1 NAME \"a\" LABEL \"\" TYPE LOGICAL POSITION 1 END VARIABLE END RECORD END SURVEY END SSS"

abbrev ends : List ℕ
ends = bytes " END VARIABLE END RECORD END SURVEY END SSS"

-- bytes below 32 are dropped before anything else; case is not significant; tokens need no space between; what follows is ignored
pub written_plain :
    Reads (bytes "SSS VER\r\nSION 1.1 SUR\tVEY RECORD R " ++ bytes rest) 1 0
    × Reads (bytes "sss Version 1.1 sUrvey reCord r variable 1 name \"a\" label \"\" type logical position 1" ++ ends) 1 0
    × Reads (bytes "SSSVERSION1.1SURVEYRECORDRVARIABLE1NAME\"a\"LABEL\"\"TYPELOGICALPOSITION21TO24ENDVARIABLEENDRECORDENDSURVEYENDSSS") 1 0
    × Reads (after_version "SURVEY RECORD R " ++ bytes rest ++ bytes " {what follows \" <") 1 0
unfolding definitions
written_plain = (refl, refl, refl, refl)

-- the headings in any order, and a title; notes between statements; comments wherever a space may stand, to 32 levels, with strings in
-- them that hold angles
pub written_around :
    Reads (after_version "USER \"u\" STANDARD NAMES TIME \"t\" DATE \"d\" ORIGIN \"o\" SURVEY TITLE \"s\" RECORD R " ++ bytes rest) 1 0
    × Reads (after_version "NOTE \"n\" NOTE \"\" SURVEY NOTE \"n\" RECORD R NOTE \"n\" " ++ bytes rest) 1 0
    × Reads (after_version "<a> SURVEY <b <c \">\"> d> RECORD <> R <{>" ++ bytes rest) 1 0
    × Reads (after_version "<<<<<<<<<<<<<<<<<<<<<<<<<<<<<<<<>>>>>>>>>>>>>>>>>>>>>>>>>>>>>>>> SURVEY RECORD R " ++ bytes rest) 1 0
unfolding definitions
written_around = (refl, refl, refl, refl)

-- every type; a range, a range WITH lines, and lines; SPECIAL; notes before a range, a line and END; the brace forms of a string
pub written_values :
    Reads (variable "SINGLE POSITION 1 VALUES 1 TO 9 END VALUES" ++ ends) 1 0
    × Reads (variable "SINGLE POSITION 1 VALUES NOTE \"\" 1 TO 7 WITH NOTE \"\" 8 \"x\" SPECIAL"
    ++ bytes " NOTE \"\" 9 \"y\" NOTE \"\" END VALUES" ++ ends) 1 2
    × Reads (variable "MULTIPLE POSITION 1 TO 4 SPREAD 2 VALUES 1 \"a\" 12 \"b\" END VALUES" ++ ends) 1 2
    × Reads (variable "QUANTITY POSITION 1 TO 4 VALUES -.5 TO 1.5 END VALUES" ++ ends) 1 0
    × Reads (variable "CHARACTER POSITION 1 TO 4 SIZE 3" ++ ends) 1 0
    × Reads (variable "SINGLE POSITION 1 VALUES 1 \"{\"}{{}{NL}{0aFF}}\" END VALUES" ++ ends) 1 1
unfolding definitions
written_values = (refl, refl, refl, refl, refl, refl)
