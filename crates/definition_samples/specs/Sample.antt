-- Document 01's sample definition, from its bytes: it is read, and gives its table.
use Rattle.std.specs.Prelude.{◌≡◌, refl, cond, List, [], ◌∷◌, ◌++◌, ℕ, ◌≤◌, ◌<◌, ltb, ℤ, pos, negsuc, length, drop}
use Rattle.std.proofs.Common.{◌∙◌, ap, lt-ltb, le-ltb}
use Rattle.layout.specs.declared.Columns.{Columns}
use Rattle.layout.specs.declared.Header.{Header}
use Rattle.rows.specs.rule.Cells.{row_cells, header_cells}
use Rattle.survey.specs.rule.Survey.{Variable, Survey}
use Rattle.survey.specs.rule.Table.{table_of}
use Rattle.reading.specs.rule.Result.{Result, Is, Not}
use Rattle.reading.specs.rule.Whole.{survey_of}
use Rattle.definition.specs.declared.Answer.TheVariants as answer
use Rattle.definition.specs.rule.Definition.{Built, Refusal, sss_outcome, sss_answer, sss_table_after}
use Rattle.definition_samples.specs.Bytes.{bytes}
use Rattle.definition_samples.specs.Definitions.{definitions}

-- the text, a line feed after each line
abbrev pub sample : List ℕ
sample =
    bytes "SSS VERSION 1.1 SURVEY RECORD R\n"
    ++ bytes "VARIABLE 1 NAME \"desk\" LABEL \"Desk\" TYPE SINGLE POSITION 1 TO 2\n"
    ++ bytes "VALUES 1 TO 12 END VALUES END VARIABLE\n"
    ++ bytes "VARIABLE 2 NAME \"seen\" LABEL \"Seen\" TYPE MULTIPLE POSITION 3 TO 6\n"
    ++ bytes "VALUES 1 \"a\" 2 \"b\" 4 \"d\" END VALUES END VARIABLE\n"
    ++ bytes "VARIABLE 3 NAME \"wait\" LABEL \"Wait\" TYPE QUANTITY POSITION 7 TO 11\n"
    ++ bytes "VALUES -1.0 TO 99.5 END VALUES END VARIABLE\n"
    ++ bytes "END RECORD END SURVEY END SSS\n"

-- ---- its table: 6 + 20 * 3 + 4 * 3 = 78 numbers
abbrev header : Header
header = record { mark = 11; rows = 3; lines = 3; length = 11; rows_at = 6; lines_at = 66 }

-- 1 TO 12, in bytes 1 and 2
abbrev desk : Columns
desk = record {
  ident = 1;
  kind = 1;
  start = 1;
  finish = 2;
  width = 2;
  decimals = 0;
  point = 0;
  subfields = 0;
  subwidth = 0;
  range = 1;
  from = pos 1;
  to = pos 12;
  before = 0;
  lines = 0;
  name = 49;
  name_len = 4;
  label = 62;
  label_len = 4;
  usage = 0;
  filter = 0;
}

-- a bitstring of 1, 2 and 4, in bytes 3 to 6
abbrev seen : Columns
seen = record {
  ident = 2;
  kind = 2;
  start = 3;
  finish = 6;
  width = 4;
  decimals = 0;
  point = 0;
  subfields = 0;
  subwidth = 0;
  range = 0;
  from = pos 0;
  to = pos 0;
  before = 0;
  lines = 3;
  name = 152;
  name_len = 4;
  label = 165;
  label_len = 4;
  usage = 0;
  filter = 0;
}

-- -1.0 TO 99.5, scaled by ten, in bytes 7 to 11
abbrev wait : Columns
wait = record {
  ident = 3;
  kind = 3;
  start = 7;
  finish = 11;
  width = 4;
  decimals = 1;
  point = 1;
  subfields = 0;
  subwidth = 0;
  range = 1;
  from = negsuc 9;
  to = pos 995;
  before = 3;
  lines = 0;
  name = 267;
  name_len = 4;
  label = 280;
  label_len = 4;
  usage = 0;
  filter = 0;
}

-- value, special, text place, length
abbrev line : ℕ → ℕ → List ℤ
line value place = pos value ∷ pos 0 ∷ pos place ∷ pos 1 ∷ []

abbrev pub sample_table : List ℤ
sample_table = header_cells header ++ row_cells desk ++ row_cells seen ++ row_cells wait ++ line 1 211 ++ line 2 217 ++ line 4 223

-- ---- THE SAMPLE IS READ
abbrev variables_in : Result Survey → List Variable
variables_in (Is s n) = s.variables
variables_in (Not f) = []

-- the variables that the text gives
pub sample_variables : List Variable
sample_variables = variables_in (survey_of sample)

by_room : (n : ℕ) → sss_outcome sample n ≡ cond (ltb n 78) (Refusal 10 0) (Built sample_variables)
unfolding definitions sample_variables
by_room n = refl

gives_table : table_of sample_variables ≡ sample_table
unfolding definitions sample_variables
gives_table = refl

-- wherever there is room for 78 numbers the outcome is the variables that give its table
pub sample_read : (n : ℕ) → 78 ≤ n → (l : List Variable) × (sss_outcome sample n ≡ Built l) × (table_of l ≡ sample_table)
sample_read n h = (sample_variables, by_room n ∙ rw (le-ltb n 78 h), gives_table)

-- and where there is less room it is 10
pub sample_too_short : (n : ℕ) → n < 78 → sss_outcome sample n ≡ Refusal 10 0
sample_too_short n h = by_room n ∙ rw (lt-ltb n 78 h)

-- in the words of the call: it answers three variables and three value lines, and the lent table begins with the sample's, its numbers
-- behind that kept
pub sample_laid : (t : List ℤ) → 78 ≤ length t
    → (sss_answer (sss_outcome sample (length t)) ≡ answer.Read 3 3)
    × (sss_table_after (sss_outcome sample (length t)) t ≡ sample_table ++ drop 78 t)
unfolding definitions sample_variables
sample_laid t h =
    let e : sss_outcome sample (length t) ≡ Built sample_variables = by_room (length t) ∙ rw (le-ltb (length t) 78 h) in
    (ap sss_answer e, ap (λ o. sss_table_after o t) e)
