-- THE CODE'S BOOKS, which contracts inside the library name; crate `bridge` proves them equal to the rule of crate `reading`.
-- VARIABLE and its ident: 5 where it is 0, has over four digits as written, or is repeated; then 8 at a 513th variable. The idents met
-- before are marked by a 1 in a list of 10,000.
use Rattle.std.specs.Prelude.{ℕ, Bool, true, cond, ◌||◌, List, eqb, ltb, leb, get_or, Ok, Err}
use Rattle.tokens.specs.declared.Figures.{Figures}
use Rattle.tokens.specs.rule.Gap.{fault, OrFault}
use Rattle.tokens.specs.Token.{number_on}
use Rattle.statements.specs.rule.Words.{VARIABLE}
use Rattle.statements.specs.Note.{statement_on}

-- `met` says of a number whether an earlier variable has it as its ident
unfoldable pub wrong_ident : (ℕ → Bool) → Figures → Bool
wrong_ident met x = cond (ltb 4 x.count) true (cond (ltb x.size 10000) (eqb x.size 0 || met x.size) true)

-- `count` variables stand before it
unfoldable pub judge_ident : (ℕ → Bool) → ℕ → OrFault Figures → OrFault Figures
judge_ident met count (Ok x) =
    cond (wrong_ident met x) (Err (fault 5 x.place))
    (cond (leb 512 count) (Err (fault 8 x.place)) (Ok x))
judge_ident met count (Err f) = Err f

unfoldable pub ident_on : List ℕ → OrFault ℕ → (ℕ → Bool) → ℕ → OrFault Figures
ident_on d t met count = judge_ident met count (number_on d (statement_on d t VARIABLE))

-- ---- the idents met are marked by a 1 in a list of 10,000
abbrev pub marked : List ℕ → ℕ → Bool
marked seen n = eqb (get_or seen n 0) 1
