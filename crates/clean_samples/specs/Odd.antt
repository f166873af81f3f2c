-- Another: numbers as they stand, every brace form as read, an empty name, SIZE and LOGICAL.
use Rattle.std.specs.Prelude.{◌≡◌, refl, List, ◌++◌, ℕ}
use Rattle.definition_samples.specs.Bytes.{bytes}
use Rattle.definition_samples.specs.Definitions.{definitions}
use Rattle.clean_samples.specs.Cleaning.{cleaning}
use Rattle.clean_samples.specs.Sample.{line, clean_from}

abbrev pub odd : List ℕ
odd =
    bytes "SSSVERSION1.1SURVEYRECORD Z VARIABLE 1 NAME \"a\" LABEL \"{22}{7b7B}{{}{\"}}\" TYPE QUANTITY POSITION 1 TO 006\n"
    ++ bytes "NOTE \"\" VALUES NOTE \"\" -.5TO00.5WITH NOTE \"\" 99.0\"dk\"END VALUES END VARIABLE\n"
    ++ bytes "VARIABLE 0002 NAME \"a\" LABEL \"{NL}\" TYPE CHARACTER POSITION 0007 TO 0010 SIZE 04 END VARIABLE\n"
    ++ bytes "VARIABLE 3 NAME \"\" LABEL \"<\" TYPE LOGICAL POSITION 11 END VARIABLE END RECORD END SURVEY END SSS"

abbrev pub odd_clean : List ℕ
odd_clean =
    line "SSS"
    ++ line "VERSION 1.1"
    ++ line "SURVEY"
    ++ line "RECORD Z"
    ++ line "VARIABLE 1"
    ++ line "NAME \"a\""
    ++ line "LABEL \"{22}{7b7B}{{}{\"}}\""
    ++ line "TYPE QUANTITY"
    ++ line "POSITION 1 TO 006"
    ++ line "VALUES"
    ++ line "-.5 TO 00.5 WITH"
    ++ line "99.0 \"dk\""
    ++ line "END VALUES"
    ++ line "END VARIABLE"
    ++ line "VARIABLE 0002"
    ++ line "NAME \"a\""
    ++ line "LABEL \"{NL}\""
    ++ line "TYPE CHARACTER"
    ++ line "POSITION 0007 TO 0010"
    ++ line "SIZE 04"
    ++ line "END VARIABLE"
    ++ line "VARIABLE 3"
    ++ line "NAME \"\""
    ++ line "LABEL \"<\""
    ++ line "TYPE LOGICAL"
    ++ line "POSITION 11 TO 11"
    ++ line "END VARIABLE"
    ++ line "END RECORD"
    ++ line "END SURVEY"
    ++ line "END SSS"

pub odd_cleaned : clean_from odd ≡ odd_clean
unfolding definitions cleaning
odd_cleaned = refl

pub odd_clean_cleaned : clean_from odd_clean ≡ odd_clean
unfolding definitions cleaning
odd_clean_cleaned = refl
