-- A truth that is given as a number: 0 and 1 are truths. Any other is no legal truth: it is refused as a truth would be (20, 21, 22, 26),
-- and by 27 where a truth would be written.
use Rattle.std.specs.Prelude.{◌≡◌, false, cond, List, ℕ, eqb, ℤ, length}
use Rattle.fields.specs.rule.Field.{truth}
use Rattle.writes.specs.rule.Public.{refusal_of}

-- the number for what is no truth, where k is the number for a truth
unfoldable pub no_truth : ℕ → ℕ
no_truth k = cond (eqb k 0) 27 k

abbrev pub bad_truth : List ℤ → ℕ → ℕ → ℕ
bad_truth t i n = no_truth (refusal_of t i (truth false) n)

-- what is given for what is no truth: the number, and the record as it was
pub record NoTruth (t : List ℤ) (i : ℕ) (old new : List ℕ) (r : ℕ) : Type 0 where
  pub says : r ≡ bad_truth t i (length old)
  pub keeps : new ≡ old
