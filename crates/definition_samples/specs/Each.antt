-- "Numbers given back": every number of the reader of definitions, 1 to 10, is given, each at its place. One text for each (Refused.antt
-- has one for each case of the table); 1 for every text that is too long, and 10 for the sample in every table that is too short.
use Rattle.std.specs.Prelude.{◌≡◌, List, [], ℕ, ◌<◌, length}
use Rattle.definition.specs.rule.Definition.{Refusal, sss_outcome}
use Rattle.definition_samples.specs.Bytes.{bytes}
use Rattle.definition_samples.specs.Sample.{sample, sample_too_short}
use Rattle.definition_samples.specs.Refused.{RefusedAt, after_version, after_record, variable, too_long, refused_2, refused_3}
use Rattle.definition_samples.specs.Refused.{refused_4, refused_5, refused_6, refused_7, refused_8, refused_9}

pub refused_each :
    ((d : List ℕ) (n : ℕ) → 1048576 < length d → sss_outcome d n ≡ Refusal 1 0)
    × RefusedAt 2 [] " SSS VERSION 1.1"
    × RefusedAt 3 (after_version "DATE ") "\"a"
    × RefusedAt 4 (bytes "SSS VERSION ") "1.10 SURVEY"
    × RefusedAt 5 (after_record "VARIABLE ") "0"
    × RefusedAt 6 (variable "SINGLE POSITION 1 VALUES ") "0 TO 9"
    × RefusedAt 7 (variable "SINGLE POSITION ") "0 TO 2"
    × RefusedAt 8 (variable "LOGICAL POSITION ") "16385"
    × RefusedAt 9 (after_version "STANDARD NAMES SURVEY RECORD R VARIABLE 1 NAME ")
    "\"1a\" LABEL \"\" TYPE LOGICAL POSITION 1 END VARIABLE END RECORD END SURVEY END SSS"
    × ((n : ℕ) → n < 78 → sss_outcome sample n ≡ Refusal 10 0)
refused_each = (
  too_long,
  refused_2.0,
  refused_3.0,
  refused_4,
  refused_5.0,
  refused_6.0,
  refused_7.0,
  refused_8.0,
  refused_9.0,
  sample_too_short,
)
