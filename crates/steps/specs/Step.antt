-- THE CODE'S BOOKS: past the next thing of a definition, by what the readers of tokens answer. Law.antt says what that is where the grammar
-- derives the thing.
use Rattle.std.specs.Prelude.{true, false, List, ℕ, ◌-◌, Ok, Err}
use Rattle.scan.specs.rule.Text.{text}
use Rattle.scan.specs.rule.Number.{run_of, is_value}
use Rattle.scan.specs.rule.Word.{word_at}
use Rattle.scan.specs.declared.Word.{Word}
use Rattle.scan.specs.declared.Word.TheVariants as spelled
use Rattle.tokens.specs.rule.Gap.{gap_at, OrFault}
use Rattle.tokens.specs.Token.{number_on, string_on}
use Rattle.statements.specs.Note.{notes_on}
use Rattle.steps.specs.declared.Span.{Span}
use Rattle.steps.specs.declared.Found.{Found}
use Rattle.tokens.specs.declared.Figures.{Figures}
use Rattle.tokens.specs.declared.Quoted.{Quoted}

abbrev pub span : ℕ → ℕ → ℕ → ℕ → Span
span a e n x = record { from = a; end = e; next = n; size = x }

unfoldable pub place_in : ℕ → OrFault ℕ → ℕ
place_in n (Ok m) = m
place_in n (Err f) = n

unfoldable pub gap_past : List ℕ → ℕ → ℕ
gap_past d n = place_in n (gap_at d n)

unfoldable pub notes_past : List ℕ → ℕ → ℕ
notes_past d n = place_in n (notes_on d (Ok n))

unfoldable pub found_in : ℕ → Word → Found
found_in n (spelled.Matched m) = record { there = true; next = m }
found_in n spelled.Not = record { there = false; next = n }

unfoldable pub word_past : List ℕ → ℕ → List ℕ → ℕ
word_past d n w = (found_in n (word_at d n w)).next

unfoldable pub statement_past : List ℕ → ℕ → List ℕ → ℕ
statement_past d n w = word_past d (notes_past d n) w

unfoldable pub keyword_past : List ℕ → ℕ → List ℕ → ℕ
keyword_past d n w = word_past d (gap_past d n) w

unfoldable pub word_found : List ℕ → ℕ → List ℕ → Found
word_found d n w = found_in (gap_past d n) (word_at d (gap_past d n) w)

unfoldable pub statement_found : List ℕ → ℕ → List ℕ → Found
statement_found d n w = found_in (notes_past d n) (word_at d (notes_past d n) w)

unfoldable pub number_in : OrFault Figures → Span
number_in (Ok x) = span x.place x.next x.next x.size
number_in (Err f) = span 0 0 0 0

unfoldable pub number_span : List ℕ → ℕ → Span
number_span d n = number_in (number_on d (Ok n))

unfoldable pub phrase_in : OrFault Quoted → Span
phrase_in (Ok q) = span q.place (q.next - 1) q.next 0
phrase_in (Err f) = span 0 0 0 0

unfoldable pub string_span : List ℕ → ℕ → Span
string_span d n = phrase_in (string_on d (Ok n))

unfoldable pub value_span : List ℕ → ℕ → Span
value_span d n = let end = run_of is_value n (text d n) in span n end end 0
