-- THE CODE'S BOOKS, which contracts inside the library name; crate `bridge` proves them equal to the rule of crate `reading`.
-- SPREAD n [OF w]: n subfields of w bytes. 7 where n or w is 0; without OF n must divide the position's width exactly, else 7 at n.
use Rattle.std.specs.Prelude.{ℕ, ◌/◌, ◌%◌, cond, List, eqb, Ok, Err}
use Rattle.tokens.specs.declared.Choice.{Choice}
use Rattle.tokens.specs.declared.Choice.TheVariants.{Taken, Left}
use Rattle.tokens.specs.declared.Figures.{Figures}
use Rattle.tokens.specs.rule.Gap.{fault, OrFault}
use Rattle.tokens.specs.Gap.{gap_on}
use Rattle.tokens.specs.Token.{choice_of, number_on, past_number}
use Rattle.statements.specs.rule.Words.{OF}
use Rattle.statements.specs.declared.Subfields.{Subfields}

unfoldable pub judge_of : Figures → Figures → ℕ → OrFault Subfields
judge_of n w next =
    cond (eqb n.size 0) (Err (fault 7 n.place))
    (cond (eqb w.size 0) (Err (fault 7 w.place))
    (Ok (record { count = n.size; width = w.size; next = next })))

unfoldable pub judge_even : Figures → ℕ → ℕ → OrFault Subfields
judge_even n width next =
    cond (eqb n.size 0) (Err (fault 7 n.place))
    (cond (eqb (width % n.size) 0) (Ok (record { count = n.size; width = width / n.size; next = next }))
    (Err (fault 7 n.place)))

abbrev pub ended : OrFault ℕ → (ℕ → OrFault Subfields) → OrFault Subfields
ended (Ok n) k = k n
ended (Err f) k = Err f

abbrev pub given : OrFault Figures → (Figures → OrFault Subfields) → OrFault Subfields
given (Ok x) k = k x
given (Err f) k = Err f

unfoldable pub fields_of : OrFault Figures → OrFault Figures → OrFault Subfields
fields_of a b = given a λ x. given b λ y. judge_of x y y.next

unfoldable pub even_of : OrFault Figures → ℕ → OrFault ℕ → OrFault Subfields
even_of a width end = given a λ x. ended end λ n. judge_even x width n

abbrev pub rest : List ℕ → OrFault Figures → ℕ → OrFault ℕ → Choice → OrFault Subfields
rest d a width g (Taken m) = fields_of a (number_on d (Ok m))
rest d a width g Left = even_of a width g

-- what stands behind the word SPREAD, for a position of `width` bytes
unfoldable pub spread_rest : List ℕ → OrFault ℕ → ℕ → OrFault Subfields
spread_rest d t width =
    let a = number_on d t in
    let g = gap_on d (past_number a) in
    rest d a width g (choice_of d g OF)
