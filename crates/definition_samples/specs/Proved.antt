-- "Proved readings": document 01's list, by computation, from the text of each variable and the bytes of its record. `read_as` is what
-- reading row 0 answers, with room for nine members, and `list_as` the list after it.
use Rattle.std.specs.Prelude.{◌≡◌, refl, true, List, [], ◌∷◌, ◌++◌, ℤ, pos, negsuc, replicate}
use Prim.Native.String.{String}
use Rattle.layout.specs.rule.Layout.{line_base}
use Rattle.definition.specs.rule.Definition.{sss_outcome, sss_table_after}
use Rattle.faults.specs.declared.Fault.TheVariants.{Stray}
use Rattle.records.specs.rule.Value.{nothing, number_is, set_of, truth_is, bad_field, read_as, list_as}
use Rattle.definition_samples.specs.Bytes.{bytes}
use Rattle.definition_samples.specs.Definitions.{definitions}
use Rattle.definition_samples.specs.Tables.{tables}
use Rattle.definition_samples.specs.Refused.{RefusedAt, variable}

-- numbers that stand for what the lent memory held before: nine for the list of members, and for the table as many as one row with four
-- lines has
abbrev nine : List ℤ
nine = pos 70 ∷ pos 71 ∷ pos 72 ∷ pos 73 ∷ pos 74 ∷ pos 75 ∷ pos 76 ∷ pos 77 ∷ pos 78 ∷ []

abbrev lent : List ℤ
lent = replicate (line_base 1 4) (pos 79)

-- the table once a definition of one variable is read into it: given are the variable's type, its position and what the type has. (A
-- text that is refused would leave the numbers lent, by which nothing is read.)
abbrev table_from : String → List ℤ
table_from s = sss_table_after (sss_outcome (variable s ++ bytes " END VARIABLE END RECORD END SURVEY END SSS") (line_base 1 4)) lent

abbrev single : List ℤ
single = table_from "SINGLE POSITION 1 TO 2 VALUES 1 TO 20 END VALUES"

abbrev bits_of_four : List ℤ
bits_of_four = table_from "MULTIPLE POSITION 1 TO 9 VALUES 1 \"a\" 2 \"b\" 3 \"c\" 9 \"i\" END VALUES"

abbrev bits_to9 : List ℤ
bits_to9 = table_from "MULTIPLE POSITION 1 TO 9 VALUES 1 TO 9 END VALUES"

abbrev spread_to999 : List ℤ
spread_to999 = table_from "MULTIPLE POSITION 1 TO 6 SPREAD 2 OF 3 VALUES 1 TO 999 END VALUES"

abbrev spread_to9 : List ℤ
spread_to9 = table_from "MULTIPLE POSITION 1 TO 4 SPREAD 2 OF 2 VALUES 1 TO 9 END VALUES"

abbrev quantity_to99 : List ℤ
quantity_to99 = table_from "QUANTITY POSITION 1 TO 3 VALUES -99 TO 99 END VALUES"

abbrev quantity_of_cents : List ℤ
quantity_of_cents = table_from "QUANTITY POSITION 1 TO 6 VALUES -1.00 TO 99.99 END VALUES"

abbrev truth_in_two : List ℤ
truth_in_two = table_from "LOGICAL POSITION 1 TO 2"

-- THE LIST
pub proved_readings :
    (read_as single 0 (bytes "07") 9 ≡ number_is (pos 7))
    × (read_as single 0 (bytes " 7") 9 ≡ number_is (pos 7))
    × (read_as single 0 (bytes "  ") 9 ≡ nothing)
    × (read_as single 0 (bytes "00") 9 ≡ nothing)
    × (read_as single 0 (bytes "7 ") 9 ≡ bad_field (Stray 1))
    × (read_as bits_of_four 0 (bytes "100xxxxx0") 9 ≡ set_of 1)
    × (list_as bits_of_four 0 (bytes "100xxxxx0") nine
    ≡ (pos 1 ∷ pos 71 ∷ pos 72 ∷ pos 73 ∷ pos 74 ∷ pos 75 ∷ pos 76 ∷ pos 77 ∷ pos 78 ∷ []))
    × (read_as bits_of_four 0 (bytes "   xxxxx ") 9 ≡ nothing)
    × (read_as bits_to9 0 (bytes "000000000") 9 ≡ set_of 0)
    × (list_as bits_to9 0 (bytes "000000000") nine ≡ nine)
    × (read_as spread_to999 0 (bytes "001042") 9 ≡ set_of 2)
    × (list_as spread_to999 0 (bytes "001042") nine
    ≡ (pos 1 ∷ pos 42 ∷ pos 72 ∷ pos 73 ∷ pos 74 ∷ pos 75 ∷ pos 76 ∷ pos 77 ∷ pos 78 ∷ []))
    × (read_as spread_to9 0 (bytes "x1x0") 9 ≡ set_of 1)
    × (list_as spread_to9 0 (bytes "x1x0") nine
    ≡ (pos 1 ∷ pos 71 ∷ pos 72 ∷ pos 73 ∷ pos 74 ∷ pos 75 ∷ pos 76 ∷ pos 77 ∷ pos 78 ∷ []))
    × (read_as quantity_to99 0 (bytes "-07") 9 ≡ number_is (negsuc 6))
    × (read_as quantity_of_cents 0 (bytes "x-1.00") 9 ≡ number_is (negsuc 99))
    × RefusedAt 7 (variable "QUANTITY POSITION ") "1 TO 2 VALUES 0 TO 999 END VALUES END VARIABLE END RECORD END SURVEY END SSS"
    × (read_as truth_in_two 0 (bytes "x1") 9 ≡ truth_is true)
unfolding definitions tables
proved_readings = (refl, refl, refl, refl, refl, refl, refl, refl, refl, refl, refl, refl, refl, refl, refl, refl, (λ n. refl), refl)
