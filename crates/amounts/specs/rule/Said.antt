-- "code, from, to: characters other than digits, points, `+`, `-`, or none, are 2; a run of these of wrong form is 6." What the characters
-- of a stretch say as a value is the rule's `amount_of`, as for the bytes of a run in 1.1.
use Rattle.std.specs.Prelude.{◌≡◌, Bool, cond, List, [], ◌∷◌, ℕ, ltb}
use Rattle.scan.specs.rule.Number.{is_digit, decimal_of}
use Rattle.spans.specs.rule.Heard.{heard, All}

-- its digits, a sign and a point left out, and what they say, however many they are
unfoldable pub digits_in : List ℕ → List ℕ
digits_in [] = []
digits_in (c ∷ cs) = cond (is_digit c) (c ∷ digits_in cs) (digits_in cs)

unfoldable pub true_in : List ℕ → ℕ
true_in cs = decimal_of 0 (digits_in cs)

-- whether the stretch a says less than the stretch b, where both say characters alone
abbrev pub Less : List ℕ → List ℕ → Bool → Type 0
Less a b r = (x y : List ℕ) → heard a 0 ≡ All x → heard b 0 ≡ All y → r ≡ ltb (true_in x) (true_in y)
