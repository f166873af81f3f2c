-- "Numbers given back", from texts: each of 2 to 9 by short texts, with its number and its place, and 1 by a law. (10 is
-- `sample_too_short` in Sample.antt.) The fault stands where the second part of a text begins; however long the lent table is, the
-- refusal is the same.
use Rattle.std.specs.Prelude.{◌≡◌, refl, List, [], ◌++◌, ℕ, ◌<◌, length}
use Prim.Native.String.{String}
use Rattle.std.proofs.Common.{lt-ltb}
use Rattle.definition.specs.rule.Definition.{Refusal, sss_outcome}
use Rattle.definition_samples.specs.Bytes.{bytes}
use Rattle.definition_samples.specs.Definitions.{definitions}

-- 1: every text that is too long, whatever it says
pub too_long : (d : List ℕ) (n : ℕ) → 1048576 < length d → sss_outcome d n ≡ Refusal 1 0
unfolding sss_outcome
too_long d n h = rw (lt-ltb 1048576 (length d) h)

-- the text that begins so and goes on with `fault` is refused with that number at the place of `fault`
abbrev pub RefusedAt : ℕ → List ℕ → String → Type 0
RefusedAt number begins fault = (n : ℕ) → sss_outcome (begins ++ bytes fault) n ≡ Refusal number (length begins)

-- the head of a definition, and then so
abbrev pub after_version : String → List ℕ
after_version s = bytes "SSS VERSION 1.1 " ++ bytes s

abbrev pub after_record : String → List ℕ
after_record s = after_version "SURVEY RECORD R " ++ bytes s

-- a variable up to its type, and then so
abbrev pub variable : String → List ℕ
variable s = after_record "VARIABLE 1 NAME \"a\" LABEL \"\" TYPE " ++ bytes s

-- 2, another token was due: a space before SSS; a comment before VERSION; the end, at the file's length; a letter; a heading twice; and
-- 003's example, whose WITH is missing
pub refused_2 :
    RefusedAt 2 [] " SSS VERSION 1.1"
    × RefusedAt 2 (bytes "SSS ") "<> VERSION 1.1"
    × RefusedAt 2 (bytes "SSS VERSION 1.1") ""
    × RefusedAt 2 (after_version "SURVEY RECORD ") "1"
    × RefusedAt 2 (after_version "DATE \"a\" ") "DATE \"b\""
    × RefusedAt 2 (variable "QUANTITY POSITION 1 TO 3 VALUES 0 TO 499 ") "500 \"more\" END VALUES"
unfolding definitions
refused_2 = ((λ n. refl), (λ n. refl), (λ n. refl), (λ n. refl), (λ n. refl), (λ n. refl))

-- 3: a string unclosed; a comment, at the outermost mark; a string in one, too; a bad brace form, in a comment's string too; the 33rd
-- angle
pub refused_3 :
    RefusedAt 3 (after_version "DATE ") "\"a"
    × RefusedAt 3 (after_version "") "<a <b> <c"
    × RefusedAt 3 (after_version "<a> ") "<b \"c> <d>"
    × RefusedAt 3 (after_version "DATE \"a") "{nl}\""
    × RefusedAt 3 (after_version "<a <\"b") "{4}\">>"
    × RefusedAt 3 (after_version "<<<<<<<<<<<<<<<<<<<<<<<<<<<<<<<<") "<"
unfolding definitions
refused_3 = ((λ n. refl), (λ n. refl), (λ n. refl), (λ n. refl), (λ n. refl), (λ n. refl))

-- 4: a version that is not 1.1 as text
pub refused_4 : RefusedAt 4 (bytes "SSS VERSION ") "1.10 SURVEY"
unfolding definitions
refused_4 = λ n. refl

-- 5: ident 0, over four digits, repeated
pub refused_5 :
    RefusedAt 5 (after_record "VARIABLE ") "0"
    × RefusedAt 5 (after_record "VARIABLE ") "00001"
    × RefusedAt 5 (variable "LOGICAL POSITION 1 END VARIABLE VARIABLE ") "01"
unfolding definitions
refused_5 = ((λ n. refl), (λ n. refl), (λ n. refl))

-- 6: a value's form; a range reversed, and decimals that differ, at the second of the two; a value repeated, at the later one
pub refused_6 :
    RefusedAt 6 (variable "SINGLE POSITION 1 VALUES ") "0 TO 9"
    × RefusedAt 6 (variable "SINGLE POSITION 1 VALUES 9 TO ") "8"
    × RefusedAt 6 (variable "QUANTITY POSITION 1 TO 4 VALUES 0.5 TO ") "9"
    × RefusedAt 6 (variable "SINGLE POSITION 1 VALUES 1 \"x\" ") "01 \"y\""
unfolding definitions
refused_6 = ((λ n. refl), (λ n. refl), (λ n. refl), (λ n. refl))

-- 7: start 0; finish below start; subfields 0; subfield width 0; inexact, at the count; SIZE 0; too narrow, at the first number
pub refused_7 :
    RefusedAt 7 (variable "SINGLE POSITION ") "0 TO 2"
    × RefusedAt 7 (variable "SINGLE POSITION 2 TO ") "1"
    × RefusedAt 7 (variable "MULTIPLE POSITION 1 TO 4 SPREAD ") "0 OF 2"
    × RefusedAt 7 (variable "MULTIPLE POSITION 1 TO 4 SPREAD 2 OF ") "0"
    × RefusedAt 7 (variable "MULTIPLE POSITION 1 TO 4 SPREAD ") "3 VALUES"
    × RefusedAt 7 (variable "CHARACTER POSITION 1 TO 4 SIZE ") "0"
    × RefusedAt 7 (variable "SINGLE POSITION ") "1 VALUES 1 TO 10 END VALUES END VARIABLE"
unfolding definitions
refused_7 = ((λ n. refl), (λ n. refl), (λ n. refl), (λ n. refl), (λ n. refl), (λ n. refl), (λ n. refl))

-- 8: a location, a category, SIZE, a scaled quantity, decimals
pub refused_8 :
    RefusedAt 8 (variable "LOGICAL POSITION ") "16385"
    × RefusedAt 8 (variable "SINGLE POSITION 1 TO 5 VALUES 1 TO ") "10000"
    × RefusedAt 8 (variable "CHARACTER POSITION 1 TO 5000 SIZE ") "4097"
    × RefusedAt 8 (variable "QUANTITY POSITION 1 TO 20 VALUES 0 TO ") "1000000000000000"
    × RefusedAt 8 (variable "QUANTITY POSITION 1 TO 20 VALUES ") "0.0000000001 TO 0.0000000002"
unfolding definitions
refused_8 = ((λ n. refl), (λ n. refl), (λ n. refl), (λ n. refl), (λ n. refl))

-- 9, once END SSS is read: a name that begins with a digit, one of nine letters, and the later of two that agree when case is set aside
pub refused_9 :
    RefusedAt 9 (after_version "STANDARD NAMES SURVEY RECORD R VARIABLE 1 NAME ")
    "\"1a\" LABEL \"\" TYPE LOGICAL POSITION 1 END VARIABLE END RECORD END SURVEY END SSS"
    × RefusedAt 9 (after_version "STANDARD NAMES SURVEY RECORD R VARIABLE 1 NAME ")
    "\"abcdefghi\" LABEL \"\" TYPE LOGICAL POSITION 1 END VARIABLE END RECORD END SURVEY END SSS"
    × RefusedAt 9
    (after_version "STANDARD NAMES SURVEY RECORD R VARIABLE 1 NAME \"aB\" LABEL \"\" TYPE LOGICAL POSITION 1 END VARIABLE VARIABLE 2 NAME ")
    "\"Ab\" LABEL \"\" TYPE LOGICAL POSITION 1 END VARIABLE END RECORD END SURVEY END SSS"
unfolding definitions
refused_9 = ((λ n. refl), (λ n. refl), (λ n. refl))

-- ---- which of several comes: "the first 2 or 3 met, then 4 to 8 by lowest number, equal numbers by earlier place"
-- 2 and 3 before the statement is judged, a comment before an optional word included; 7 at the first number before 7 at the second; 7 at
-- the second number before 8 at the first
pub refused_first :
    RefusedAt 2 (variable "SINGLE POSITION 0 TO ") "x"
    × RefusedAt 3 (variable "SINGLE POSITION 0 ") "<TO 9"
    × RefusedAt 3 (variable "MULTIPLE POSITION 1 TO 4 SPREAD 3 ") "<OF 2"
    × RefusedAt 3 (variable "SINGLE POSITION 1 VALUES 9 TO 8 ") "<WITH"
    × RefusedAt 3 (variable "SINGLE POSITION 1 VALUES 0 \"a\" ") "<SPECIAL"
    × RefusedAt 7 (variable "MULTIPLE POSITION 1 TO 4 SPREAD ") "0 OF 0"
    × RefusedAt 7 (variable "SINGLE POSITION 20000 TO ") "19999"
    × RefusedAt 7 (variable "SINGLE POSITION ") "0 TO 20000"
    × RefusedAt 6 (variable "QUANTITY POSITION 1 TO 20 VALUES 9999999999999999 TO ") "1.5"
unfolding definitions
refused_first = ((λ n. refl), (λ n. refl), (λ n. refl), (λ n. refl), (λ n. refl), (λ n. refl), (λ n. refl), (λ n. refl), (λ n. refl))

-- width after END VARIABLE; ranges and lines one by one, before what follows them
pub refused_in_turn :
    RefusedAt 2 (variable "SINGLE POSITION 1 VALUES 1 TO 10 END VALUES END ") "RECORD"
    × RefusedAt 6 (variable "SINGLE POSITION 1 VALUES 9 TO ") "8 WITH 1 \"a"
    × RefusedAt 6 (variable "SINGLE POSITION 1 VALUES 1 \"a\" ") "1 \"b\" 2 \"c"
unfolding definitions
refused_in_turn = ((λ n. refl), (λ n. refl), (λ n. refl))
