-- "Mark 11 goes with a 1.1 definition, mark 12 with an XML one; any other pairing is 40": a table is a definition's own where its first
-- numbers are just those the definition yields, of which the mark is the first.
use Rattle.std.specs.Prelude.{Bool, cond, List, ℕ, ℤ}
use Rattle.layout.specs.rule.Layout.{line_base, most_rows, most_lines}
use Rattle.laying.specs.rule.Begins.{begins_table}
use Rattle.definition.specs.declared.Against.{Against}
use Rattle.definition.specs.declared.Against.TheVariants.{Same, Other, Refused}
use Rattle.definition.specs.rule.Against.{is_same}
use Rattle.kinds.specs.rule.Definition.{DefinitionOutcome, Built, Refusal, definition_outcome}

abbrev pub held : DefinitionOutcome → List ℤ → Against
held (Built v e s) t = cond (begins_table s t) Same Other
held (Refusal number place) t = Refused number place

unfoldable pub against_of : List ℕ → List ℤ → Against
against_of d t = held (definition_outcome d (line_base most_rows most_lines)) t

unfoldable pub yields : List ℕ → List ℤ → Bool
yields d t = is_same (against_of d t)
