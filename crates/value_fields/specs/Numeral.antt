-- A count in its digits: the last is what ten leaves, those before it are the rest's. Import reads codes by it.
use Rattle.std.specs.Prelude.{◌≡◌, [], ◌∷◌, ◌++◌, ℕ, zero, suc, ◌+◌, ◌*◌, ◌/◌, ◌%◌, ◌^◌, ◌≤◌, ◌<◌}
use Rattle.std.proofs.Common.{ap, ◌∙◌, arith}
use Rattle.std.proofs.Math.Nat.{pow-succ'}
use Rattle.ascii.specs.rule.Tens.{digits_of}
use Rattle.ascii.specs.Tens.{digits_hold, digits_some, digits_least}
use Rattle.fields.specs.rule.Number.{padded}
use Rattle.digits.specs.Right.{padded_right}
use Rattle.lines.specs.rule.Text.{numeral}

module _ (n : ℕ) (some : 10 ≤ n) (few : n < 10 ^ 16) where
  up : digits_of n ≤ suc (digits_of (n / 10))
  up =
      let h = digits_hold (n / 10) (omega arith) in
      digits_least n (suc (digits_of (n / 10))) (omega arith) (rw pow-succ' (omega (arith, h)))

  down : (j : ℕ) → 1 ≤ j → n < 10 ^ j → suc (digits_of (n / 10)) ≤ j
  down zero h l = absurd (omega arith)
  down (suc zero) h l = absurd (omega arith)
  down (suc (suc k)) h l =
      let m : n < 10 * 10 ^ suc k = rw (pow-succ' 10 (suc k)) at l in
      let q : n / 10 < 10 ^ suc k = omega (arith, m) in
      omega (arith, digits_least (n / 10) (suc k) (omega arith) q)

  digits_more : digits_of n ≡ suc (digits_of (n / 10))
  digits_more = omega (arith, up, down (digits_of n) (digits_some n) (digits_hold n few))

  pub numeral_more : numeral n ≡ numeral (n / 10) ++ (48 + n % 10) ∷ []
  unfolding numeral
  numeral_more = rw digits_more (padded_right (digits_of (n / 10)) n)

pub numeral_one : (n : ℕ) → n < 10 → numeral n ≡ (48 + n) ∷ []
unfolding numeral padded
numeral_one n h =
    let e : digits_of n ≡ 1 = omega (arith, digits_some n, digits_least n 1 (omega arith) (omega arith)) in
    let d : n / 1 % 10 ≡ n = omega arith in
    rw e (ap (λ (x : ℕ). (48 + x) ∷ []) d)

-- how many digits a small count has
pub digits_one : (n : ℕ) → n < 10 → digits_of n ≡ 1
digits_one n h = omega (arith, digits_some n, digits_least n 1 (omega arith) (omega arith))

pub digits_two : (n : ℕ) → 10 ≤ n → n < 100 → digits_of n ≡ 2
digits_two n l h = digits_more n l (omega arith) ∙ ap suc (digits_one (n / 10) (omega arith))

pub digits_three : (n : ℕ) → 100 ≤ n → n < 1000 → digits_of n ≡ 3
digits_three n l h = digits_more n (omega arith) (omega arith) ∙ ap suc (digits_two (n / 10) (omega arith) (omega arith))
