-- THE CODE'S BOOKS, which contracts inside the library name; crate `bridge` proves them equal to the rule of crate `reading`.
-- TYPE and one of five words: 1 SINGLE, 2 MULTIPLE, 3 QUANTITY, 4 CHARACTER, 5 LOGICAL.
use Rattle.std.specs.Prelude.{ℕ, List, Ok, Err}
use Rattle.tokens.specs.declared.Choice.{Choice}
use Rattle.tokens.specs.declared.Choice.TheVariants.{Taken, Left}
use Rattle.tokens.specs.Gap.{gap_on}
use Rattle.tokens.specs.Token.{choice_of, word_here}
use Rattle.statements.specs.rule.Words.{TYPE, SINGLE, MULTIPLE, QUANTITY, CHARACTER, LOGICAL}
use Rattle.statements.specs.Note.{statement_on}
use Rattle.statements.specs.declared.Typed.{Typed}
use Rattle.statements.specs.declared.Typed.TheVariants.{Is, Not}
use Rattle.tokens.specs.rule.Gap.{OrFault}

-- the type k if its word stands here, or else
abbrev pub or : Choice → ℕ → Typed → Typed
or (Taken m) k z = Is k m
or Left k z = z

abbrev pub last : OrFault ℕ → ℕ → Typed
last (Ok m) k = Is k m
last (Err f) k = Not f

unfoldable pub type_here : List ℕ → OrFault ℕ → Typed
type_here d t =
    or (choice_of d t SINGLE) 1
    (or (choice_of d t MULTIPLE) 2
    (or (choice_of d t QUANTITY) 3
    (or (choice_of d t CHARACTER) 4
    (last (word_here d t LOGICAL) 5))))

unfoldable pub type_on : List ℕ → OrFault ℕ → Typed
type_on d t = type_here d (gap_on d (statement_on d t TYPE))
