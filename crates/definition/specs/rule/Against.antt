-- "40 the table is not the one this definition yields": its first numbers "are not just those the definition yields (text places and
-- lengths included); more numbers are not looked at; a shorter table is 40"; 1 to 9 come first. 10 is never met: the room for the table
-- is that of any table.
use Rattle.std.specs.Prelude.{Bool, true, false, cond, List, ℕ, ℤ}
use Rattle.layout.specs.rule.Layout.{line_base, most_rows, most_lines}
use Rattle.survey.specs.rule.Table.{table_of}
use Rattle.laying.specs.rule.Begins.{begins_table}
use Rattle.definition.specs.declared.Against.{Against}
use Rattle.definition.specs.declared.Against.TheVariants.{Same, Other, Refused}
use Rattle.definition.specs.rule.Definition.{SssOutcome, Built, Refusal, sss_outcome}

abbrev pub sss_held : SssOutcome → List ℤ → Against
sss_held (Built l) t = cond (begins_table (table_of l) t) Same Other
sss_held (Refusal number place) t = Refused number place

unfoldable pub sss_against : List ℕ → List ℤ → Against
sss_against d t = sss_held (sss_outcome d (line_base most_rows most_lines)) t

-- the table is the one that the definition yields
abbrev pub is_same : Against → Bool
is_same Same = true
is_same Other = false
is_same (Refused number place) = false

unfoldable pub sss_yields : List ℕ → List ℤ → Bool
sss_yields d t = is_same (sss_against d t)
