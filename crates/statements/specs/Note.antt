-- THE CODE'S BOOKS, which contracts inside the library name; crate `bridge` proves them equal to the rule of crate `reading`.
-- NOTE and a string may stand, any number of times, before a statement. A statement begins with its word; a text statement is a word
-- and a string.
use Rattle.std.specs.Prelude.{ℕ, suc, List, Ok}
use Rattle.scan.specs.rule.Loop.{Next, Again, Done, loop_of}
use Rattle.tokens.specs.declared.Choice.{Choice}
use Rattle.tokens.specs.declared.Choice.TheVariants.{Taken, Left}
use Rattle.tokens.specs.Gap.{left, gap_on}
use Rattle.tokens.specs.Token.{choice_of, word_here, string_on, past_string}
use Rattle.statements.specs.rule.Words.{NOTE}
use Rattle.tokens.specs.rule.Gap.{OrFault}
use Rattle.tokens.specs.declared.Quoted.{Quoted}

-- a note behind its word, and the gap after it
unfoldable pub past_note : List ℕ → ℕ → OrFault ℕ
past_note d m = gap_on d (past_string (string_on d (Ok m)))

abbrev pub note_step : List ℕ → Choice → OrFault ℕ → Next (OrFault ℕ) (OrFault ℕ)
note_step d (Taken m) t = Again (past_note d m)
note_step d Left t = Done t

-- notes from here on, as long as there are any
unfoldable pub notes_here : List ℕ → OrFault ℕ → OrFault ℕ
notes_here d t = loop_of (λ t. note_step d (choice_of d t NOTE) t) (Ok 0) (suc (left d t)) t

unfoldable pub notes_on : List ℕ → OrFault ℕ → OrFault ℕ
notes_on d t = notes_here d (gap_on d t)

unfoldable pub statement_on : List ℕ → OrFault ℕ → List ℕ → OrFault ℕ
statement_on d t w = word_here d (notes_on d t) w

unfoldable pub text_on : List ℕ → OrFault ℕ → List ℕ → OrFault Quoted
text_on d t w = string_on d (statement_on d t w)
