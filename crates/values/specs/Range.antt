-- THE CODE'S BOOKS, which contracts inside the library name; crate `bridge` proves them equal to the rule of crate `reading`.
-- A range `a TO b`, with WITH where lines follow. 6 stands at each value of wrong form; where both have form, at the second if the
-- decimals differ or the range is reversed by the true values; then 8 at each beyond its limit.
use Rattle.std.specs.Prelude.{ℕ, Bool, true, false, cond, List, eqb, Ok, Err}
use Rattle.std.specs.Int.Signed.{lt_z}
use Rattle.tokens.specs.declared.Choice.{Choice}
use Rattle.tokens.specs.declared.Choice.TheVariants.{Taken, Left}
use Rattle.tokens.specs.declared.Value.{Value}
use Rattle.tokens.specs.rule.Gap.{fault, OrFault}
use Rattle.tokens.specs.Gap.{gap_on}
use Rattle.tokens.specs.Token.{choice_of, value_on, past_value}
use Rattle.statements.specs.rule.Words.{WITH}
use Rattle.values.specs.Value.{form_of, large_of, true_of, scaled_of, point_of, points_of}
use Rattle.values.specs.declared.Ranged.{Ranged}
use Rattle.values.specs.declared.Ranged.TheVariants.{Is, Not}
use Rattle.values.specs.declared.Block.{Block}

-- a range whose values have form and order: its limits, and what it says
unfoldable pub limit_range : Bool → Value → Value → OrFault Block
limit_range quantity a b =
    cond (large_of quantity a) (Err (fault 8 a.place))
    (cond (large_of quantity b) (Err (fault 8 b.place))
    (Ok (record {
      ranged = true;
      from = scaled_of a;
      to = scaled_of b;
      known = true;
      decimals = a.decimals;
      point = points_of (point_of a) (point_of b);
    })))

-- b lies below a, by their true values
abbrev pub reversed_of : List ℕ → Value → Value → Bool
reversed_of d a b = lt_z (true_of d b) (true_of d a)

-- `below` says whether the second lies below the first: the judgement asks for the outcome, not for the text
unfoldable pub judge_range : Bool → Bool → Value → Value → OrFault Block
judge_range below quantity a b =
    cond (form_of quantity a) (cond (form_of quantity b)
    (cond (eqb a.decimals b.decimals)
    (cond below (Err (fault 6 b.place))
    (limit_range quantity a b))
    (Err (fault 6 b.place)))
    (Err (fault 6 b.place)))
    (Err (fault 6 a.place))

abbrev pub settled : OrFault Block → Bool → ℕ → Ranged
settled (Ok b) with n = Is b with n
settled (Err f) with n = Not f

abbrev pub given : OrFault Value → (Value → Ranged) → Ranged
given (Ok v) k = k v
given (Err f) k = Not f

abbrev pub ended : OrFault ℕ → (ℕ → Ranged) → Ranged
ended (Ok n) k = k n
ended (Err f) k = Not f

-- the first 2 or 3 met, and then the judgement
unfoldable pub ranged_of : List ℕ → Bool → OrFault Value → OrFault Value → OrFault ℕ → Bool → Ranged
ranged_of d quantity a b end with = given a λ x. given b λ y. ended end λ n. settled (judge_range (reversed_of d x y) quantity x y) with n

abbrev pub with_or : List ℕ → Bool → OrFault Value → OrFault Value → OrFault ℕ → Choice → Ranged
with_or d quantity a b g (Taken m) = ranged_of d quantity a b (Ok m) true
with_or d quantity a b g Left = ranged_of d quantity a b g false

-- what stands behind the TO of a range that begins with a
unfoldable pub range_rest : List ℕ → Bool → OrFault Value → OrFault ℕ → Ranged
range_rest d quantity a t =
    let b = value_on d t in
    let g = gap_on d (past_value b) in
    with_or d quantity a b g (choice_of d g WITH)
