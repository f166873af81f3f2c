-- "Oskar receives surveys whose definitions went through three editors": one such, its clean text, and the reading of that.
use Rattle.std.specs.Prelude.{◌≡◌, refl, List, [], ◌∷◌, ◌++◌, ℕ, ℤ, pos, replicate}
use Prim.Native.String.{String}
use Rattle.layout.specs.declared.Columns.{Columns}
use Rattle.layout.specs.declared.Header.{Header}
use Rattle.rows.specs.rule.Cells.{row_cells, header_cells}
use Rattle.survey.specs.rule.Survey.{Survey}
use Rattle.reading.specs.rule.Result.{Result, Is, Not}
use Rattle.reading.specs.rule.Whole.{survey_of}
use Rattle.definition.specs.rule.Definition.{sss_outcome, sss_table_after}
use Rattle.clean_text.specs.rule.Clean.{clean_of}
use Rattle.definition_samples.specs.Bytes.{bytes}
use Rattle.definition_samples.specs.Definitions.{definitions}
use Rattle.clean_samples.specs.Cleaning.{cleaning}

-- the clean text of a definition that is read; nothing of one that is refused
abbrev pub cleaned : List ℕ → Result Survey → List ℕ
cleaned d (Is s m) = clean_of d s
cleaned d (Not f) = []

abbrev pub clean_from : List ℕ → List ℕ
clean_from d = cleaned d (survey_of d)

-- small letters, comments and a note; a line feed within a keyword, a number and a brace form; the heading the other way round; POSITION
-- without TO, SPREAD without OF; and more behind END SSS
abbrev pub messy : List ℕ
messy =
    bytes "SSS version  1.1<by \"<hand\"> STANDARD NAMES user\"{22}x\"origin \"o\"NOTE \"old\" time\"9\" date \"\" survey\n"
    ++ bytes "title \"T{NL}{0A}\" rec\nord r variable 0\n07 NAME \"q1\" LABEL \"One <i>\" type multiple position 1 to 4\n"
    ++ bytes "spread<> 2 values 1to 9 with 8\"a\"special 9 \"b{2\n2}\" END VALUES end variable\n"
    ++ bytes "VARIABLE 8 NAME \"q2\" LABEL \"\" TYPE SINGLE POSITION 05 VALUES 1 \"x\" END VALUES END VARIABLE\n"
    ++ bytes "END RECORD END SURVEY END SSS and more"

-- a line and its end
abbrev pub line : String → List ℕ
line s = bytes s ++ 13 ∷ 10 ∷ []

abbrev pub clean : List ℕ
clean =
    line "SSS"
    ++ line "VERSION 1.1"
    ++ line "DATE \"\""
    ++ line "TIME \"9\""
    ++ line "ORIGIN \"o\""
    ++ line "USER \"{22}x\""
    ++ line "STANDARD NAMES"
    ++ line "SURVEY"
    ++ line "TITLE \"T{NL}{0A}\""
    ++ line "RECORD r"
    ++ line "VARIABLE 007"
    ++ line "NAME \"q1\""
    ++ line "LABEL \"One <i>\""
    ++ line "TYPE MULTIPLE"
    ++ line "POSITION 1 TO 4"
    ++ line "SPREAD 2 OF 2"
    ++ line "VALUES"
    ++ line "1 TO 9 WITH"
    ++ line "8 \"a\" SPECIAL"
    ++ line "9 \"b{22}\""
    ++ line "END VALUES"
    ++ line "END VARIABLE"
    ++ line "VARIABLE 8"
    ++ line "NAME \"q2\""
    ++ line "LABEL \"\""
    ++ line "TYPE SINGLE"
    ++ line "POSITION 05 TO 05"
    ++ line "VALUES"
    ++ line "1 \"x\""
    ++ line "END VALUES"
    ++ line "END VARIABLE"
    ++ line "END RECORD"
    ++ line "END SURVEY"
    ++ line "END SSS"

-- THE CLEAN TEXT, byte for byte
pub messy_cleaned : clean_from messy ≡ clean
unfolding definitions cleaning
messy_cleaned = refl

-- and it is its own
pub clean_cleaned : clean_from clean ≡ clean
unfolding definitions cleaning
clean_cleaned = refl

-- ---- the two tables: 6 + 20 * 2 + 4 * 3 numbers, by the places of the texts and by the length of `b{22}`
abbrev header : Header
header = record { mark = 11; rows = 2; lines = 3; length = 5; rows_at = 6; lines_at = 46 }

-- two subfields of two bytes each, in bytes 1 to 4: 1 to 9, and two of them labelled
abbrev q1 : ℕ → ℕ → Columns
q1 name label = record {
  ident = 7;
  kind = 2;
  start = 1;
  finish = 4;
  width = 1;
  decimals = 0;
  point = 0;
  subfields = 2;
  subwidth = 2;
  range = 1;
  from = pos 1;
  to = pos 9;
  before = 0;
  lines = 2;
  name = name;
  name_len = 2;
  label = label;
  label_len = 7;
  usage = 0;
  filter = 0;
}

-- a SINGLE in byte 5
abbrev q2 : ℕ → ℕ → Columns
q2 name label = record {
  ident = 8;
  kind = 1;
  start = 5;
  finish = 5;
  width = 1;
  decimals = 0;
  point = 0;
  subfields = 0;
  subwidth = 0;
  range = 0;
  from = pos 0;
  to = pos 0;
  before = 2;
  lines = 1;
  name = name;
  name_len = 2;
  label = label;
  label_len = 0;
  usage = 0;
  filter = 0;
}

abbrev lines_with : ℕ → ℕ → ℕ → ℕ → List ℤ
lines_with a b long x =
    pos 8 ∷ pos 1 ∷ pos a ∷ pos 1 ∷ pos 9 ∷ pos 0 ∷ pos b ∷ pos long ∷ pos 1 ∷ pos 0 ∷ pos x ∷ pos 1 ∷ []

-- the lent table of 58 numbers, once a definition is read into it
abbrev table_from : List ℕ → List ℤ
table_from d = sss_table_after (sss_outcome d 58) (replicate 58 (pos 99))

pub messy_read :
    table_from messy ≡ header_cells header ++ row_cells (q1 147 158) ++ row_cells (q2 290 301) ++ lines_with 228 241 6 337
unfolding definitions
messy_read = refl

-- THE READING of the clean text: the same but for text places and one length
pub clean_read :
    table_from clean ≡ header_cells header ++ row_cells (q1 136 148) ++ row_cells (q2 296 308) ++ lines_with 229 244 5 354
unfolding definitions
clean_read = refl
