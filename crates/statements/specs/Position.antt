-- THE CODE'S BOOKS, which contracts inside the library name; crate `bridge` proves them equal to the rule of crate `reading`.
-- POSITION a [TO b]. It is judged once read: 7 where the start is 0, or the finish below the start by their true values; then 8
-- where one lies above 16,384.
use Rattle.std.specs.Prelude.{ℕ, Bool, cond, List, eqb, ltb, ◌≡◌, Ok, Err}
use Rattle.scan.specs.Number.{capped}
use Rattle.scan.specs.Order.{value_of}
use Rattle.tokens.specs.declared.Fault.{Fault}
use Rattle.tokens.specs.declared.Choice.{Choice}
use Rattle.tokens.specs.declared.Choice.TheVariants.{Taken, Left}
use Rattle.tokens.specs.declared.Figures.{Figures}
use Rattle.tokens.specs.rule.Gap.{fault, OrFault}
use Rattle.tokens.specs.Gap.{gap_on}
use Rattle.tokens.specs.Token.{choice_of, number_on, past_number}
use Rattle.statements.specs.rule.Words.{POSITION, TO}
use Rattle.statements.specs.Note.{statement_on}
use Rattle.statements.specs.declared.Position.{Position}

-- the true value of a number
abbrev pub true_of : List ℕ → Figures → ℕ
true_of d n = value_of d n.place n.next

-- b says less than a
abbrev pub below_of : List ℕ → Figures → Figures → Bool
below_of d b a = ltb (true_of d b) (true_of d a)

-- what a number that was read says, held at 10 ^ 15, is what stands between its places
pub data Held (d : List ℕ) : OrFault Figures → Type 0 where
  of_number : {x : Figures} → x.size ≡ capped (true_of d x) → Held d (Ok x)
  of_fault : {f : Fault} → Held d (Err f)

-- `below` says whether the second number is below the first: a judgement asks for the outcome, not for the text, so that another road
-- to the same numbers can ask it too
unfoldable pub judge_position : Bool → Figures → Figures → ℕ → OrFault Position
judge_position below a b next =
    cond (eqb a.size 0) (Err (fault 7 a.place))
    (cond below (Err (fault 7 b.place))
    (cond (ltb 16384 a.size) (Err (fault 8 a.place))
    (cond (ltb 16384 b.size) (Err (fault 8 b.place))
    (Ok (record { start = a.size; finish = b.size; place = a.place; next = next })))))

-- the first 2 or 3 met, and then the judgement
abbrev pub ended : OrFault ℕ → (ℕ → OrFault Position) → OrFault Position
ended (Ok n) k = k n
ended (Err f) k = Err f

abbrev pub given : OrFault Figures → (Figures → OrFault Position) → OrFault Position
given (Ok x) k = k x
given (Err f) k = Err f

unfoldable pub both_of : List ℕ → OrFault Figures → OrFault Figures → OrFault ℕ → OrFault Position
both_of d a b end = given a λ x. given b λ y. ended end λ n. judge_position (below_of d y x) x y n

-- a second number behind TO, or none
abbrev pub position_rest : List ℕ → OrFault Figures → OrFault ℕ → Choice → OrFault Position
position_rest d a g (Taken m) = let b = number_on d (Ok m) in both_of d a b (past_number b)
position_rest d a g Left = both_of d a a g

unfoldable pub position_on : List ℕ → OrFault ℕ → OrFault Position
position_on d t =
    let a = number_on d (statement_on d t POSITION) in
    let g = gap_on d (past_number a) in
    position_rest d a g (choice_of d g TO)
