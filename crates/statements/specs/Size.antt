-- THE CODE'S BOOKS, which contracts inside the library name; crate `bridge` proves them equal to the rule of crate `reading`.
-- SIZE n: 7 where it is 0, 8 above 4,096.
use Rattle.std.specs.Prelude.{ℕ, cond, List, eqb, ltb, Ok, Err}
use Rattle.tokens.specs.rule.Gap.{fault, OrFault}
use Rattle.tokens.specs.Token.{number_on}
use Rattle.statements.specs.rule.Words.{SIZE}
use Rattle.statements.specs.Note.{statement_on}
use Rattle.tokens.specs.declared.Figures.{Figures}

unfoldable pub judge_size : OrFault Figures → OrFault Figures
judge_size (Ok x) = cond (eqb x.size 0) (Err (fault 7 x.place)) (cond (ltb 4096 x.size) (Err (fault 8 x.place)) (Ok x))
judge_size (Err f) = Err f

unfoldable pub size_on : List ℕ → OrFault ℕ → OrFault Figures
size_on d t = judge_size (number_on d (statement_on d t SIZE))
