-- THE CODE'S BOOKS, which contracts inside the library name; crate `bridge` proves them equal to the rule of crate `reading`.
-- SSS comes first, with no space before it, then VERSION 1.1: spaces alone stand between. A version that is not 1.1 as text is 4.
-- RECORD is followed by one letter.
use Rattle.std.specs.Prelude.{ℕ, cond, List, eqb, Ok, Err}
use Rattle.scan.specs.rule.Text.{text, place_of}
use Rattle.scan.specs.rule.Number.{is_value, run_of}
use Rattle.scan.specs.rule.Word.{word_at}
use Rattle.scan.specs.declared.Word.{Word}
use Rattle.scan.specs.declared.Word.TheVariants.{Matched, Not}
use Rattle.tokens.specs.rule.Gap.{fault, OrFault}
use Rattle.tokens.specs.Gap.{then, spaces_on}
use Rattle.tokens.specs.Token.{word_here, letter_on}
use Rattle.statements.specs.rule.Words.{SSS, VERSION, ONE-ONE, RECORD}
use Rattle.statements.specs.Note.{statement_on}

-- the text 1.1, which must be the whole run that ends at `end`
abbrev pub whole : ℕ → ℕ → Word → OrFault ℕ
whole n end (Matched m) = cond (eqb m end) (Ok end) (Err (fault 4 n))
whole n end Not = Err (fault 4 n)

unfoldable pub version_here : List ℕ → ℕ → OrFault ℕ
version_here d n =
    let end = run_of is_value n (text d n) in
    cond (eqb end n) (Err (fault 2 n)) (whole n end (word_at d n ONE-ONE))

unfoldable pub opening_of : List ℕ → OrFault ℕ
opening_of d =
    let sss = word_here d (Ok (place_of (text d 0))) SSS in
    let version = word_here d (spaces_on d sss) VERSION in
    then (spaces_on d version) (version_here d)

unfoldable pub record_on : List ℕ → OrFault ℕ → OrFault ℕ
record_on d t = letter_on d (statement_on d t RECORD)
