-- A number's bytes are its digits: without the zeros in front they are what is written for it.
use Rattle.std.specs.Prelude.{◌≡◌, refl, Bool, true, false, cond, List, [], ◌∷◌, ℕ, suc, ◌+◌, ◌-◌, ◌*◌, ◌/◌, ◌%◌, ◌^◌}
use Rattle.std.specs.Prelude.{◌≤◌, ◌<◌, eqb}
use Rattle.std.proofs.Common.{sym, ap, ◌∙◌, mul-one, mul_assoc, mul-le-mul_right, eq-or-lt_of_le}
use Rattle.std.proofs.Common.{eqb-true}
use Rattle.std.proofs.Math.Logic.{⊎_elim}
use Rattle.std.proofs.Math.Nat.{pow-zero, pow-succ', one-mul, le_trans, div-eq_of_lt-le, pow-le-pow_right}
use native.Mathlib.Omega.{arith}
use Rattle.std.proofs.lemmas.Bool.{eqb-false}
use Rattle.std.proofs.Math.ListN.{length}
use Rattle.below.specs.Below.{lt_or_le}
use Rattle.ascii.specs.rule.Tens.{digits_of, count_from}
use Rattle.ascii.specs.Tens.{digits_hold, digits_least}
use Rattle.fields.specs.rule.Number.{unspaced, digits_only, decimal_from, decimal, padded}
use Rattle.numbers.specs.Room.{is_digit_lem, first_digit, decimal_room}
use Rattle.lines.specs.rule.Text.{numeral}

-- what follows the bytes b in front
unfoldable pub unled : ℕ → List ℕ → List ℕ
unled b [] = []
unled b (x ∷ s) = cond (eqb x b) (unled b s) (x ∷ s)

pub unled_spaces : (s : List ℕ) → unled 32 s ≡ unspaced s
unfolding unled unspaced
unled_spaces [] = refl
unled_spaces (b ∷ s) = rw (unled_spaces s)

-- ---- digits say a number that has them as its last
decimal_least : (n : ℕ) (s : List ℕ) → n * 10 ^ length s ≤ decimal_from n s
unfolding decimal_from
decimal_least n [] = rw (pow-zero, mul-one) (omega arith)
decimal_least n (b ∷ s) =
    let e : n * 10 ^ suc (length s) ≡ n * 10 * 10 ^ length s = rw (pow-succ', mul_assoc) in
    let l : n * 10 ≤ n * 10 + (b - 48) = omega arith in
    rw e (le_trans (mul-le-mul_right (10 ^ length s) l) (decimal_least (n * 10 + (b - 48)) s))

pub digits_above : (n : ℕ) (s : List ℕ) → digits_only s ≡ true → decimal_from n s / 10 ^ length s ≡ n
digits_above n s d = let r = decimal_room n s d in div-eq_of_lt-le (10 ^ length s) (decimal_least n s) (omega arith)

pub digits_stand : (s : List ℕ) (a : ℕ) → digits_only s ≡ true → padded (length s) (decimal_from a s) ≡ s
unfolding padded decimal_from
digits_stand [] a e = refl
digits_stand (b ∷ s) a e =
    let p = first_digit b s e in
    let d = is_digit_lem b p.0 in
    let m = a * 10 + (b - 48) in
    let q : decimal_from m s / 10 ^ length s ≡ m = digits_above m s p.1 in
    let r : 48 + m % 10 ≡ b = omega arith in
    ap (λ (x : ℕ). (48 + x % 10) ∷ padded (length s) (decimal_from m s)) q
    ∙ ap (λ (x : ℕ). x ∷ padded (length s) (decimal_from m s)) r ∙ ap (λ (l : List ℕ). b ∷ l) (digits_stand s m p.1)

-- digits whose first is not zero are all that their number has
module _ (b : ℕ) (t : List ℕ) (only : digits_only (b ∷ t) ≡ true) (some : b ≡ 48 → ⊥) where
  pub least : 10 ^ length t ≤ decimal (b ∷ t)
  unfolding decimal_from
  least =
      let d = is_digit_lem b (first_digit b t only).0 in
      let o : 48 < b = ⊎_elim (λ e. absurd (some (sym e))) (λ l. l) (eq-or-lt_of_le d.0) in
      let m = 0 * 10 + (b - 48) in
      let l : 1 ≤ m = omega arith in
      le_trans (rw one-mul at (mul-le-mul_right (10 ^ length t) l)) (decimal_least m t)

  module _ (small : decimal (b ∷ t) < 10 ^ 16) where
    size : digits_of (decimal (b ∷ t)) ≡ suc (length t)
    size =
        let n = decimal (b ∷ t) in
        let r = decimal_room 0 (b ∷ t) only in
        let up = digits_least n (suc (length t)) (omega arith) (omega arith) in
        let down : suc (length t) ≤ digits_of n = ⊎_elim
        (λ l. let p : 10 ^ digits_of n ≤ 10 ^ length t = pow-le-pow_right {n = 10} (omega arith) (omega arith) in
        let h = digits_hold n small in let g = least in absurd (omega arith)) (λ l. l) (lt_or_le (digits_of n) (suc (length t))) in
        omega arith

    stands : numeral (decimal (b ∷ t)) ≡ b ∷ t
    unfolding numeral
    stands = rw size (digits_stand (b ∷ t) 0 only)

-- ---- zeros in front say nothing
pub unled_same : (s : List ℕ) → decimal (unled 48 s) ≡ decimal s
unfolding unled decimal_from
unled_same [] = refl
unled_same (b ∷ s) = go (eqb b 48) refl (unled_same s)
  where
    go : (x : Bool) → eqb b 48 ≡ x → decimal (unled 48 s) ≡ decimal s → decimal (cond x (unled 48 s) (b ∷ s)) ≡ decimal (b ∷ s)
    go true e h = rw (eqb-true b 48 e) h
    go false e h = refl

pub unled_only : (s : List ℕ) → digits_only s ≡ true → digits_only (unled 48 s) ≡ true
unfolding unled
unled_only [] d = d
unled_only (b ∷ s) d = go (eqb b 48) (unled_only s (first_digit b s d).1)
  where
    go : (x : Bool) → digits_only (unled 48 s) ≡ true → digits_only (cond x (unled 48 s) (b ∷ s)) ≡ true
    go true h = h
    go false h = d

pub unled_first : (s : List ℕ) (b : ℕ) (t : List ℕ) → unled 48 s ≡ b ∷ t → b ≡ 48 → ⊥
unfolding unled
unled_first [] b t e f = let z : ◌≡◌ {A = ℕ} 0 1 = cc in absurd (omega arith)
unled_first (x ∷ s) b t e f = go (eqb x 48) refl e (λ g. unled_first s b t g f)
  where
    go : (y : Bool) → eqb x 48 ≡ y → cond y (unled 48 s) (x ∷ s) ≡ b ∷ t → (unled 48 s ≡ b ∷ t → ⊥) → ⊥
    go true q g k = k g
    go false q g k = let h : x ≡ 48 = cc in eqb-false x 48 q h

module _ (s : List ℕ) (only : digits_only s ≡ true) (small : decimal s < 10 ^ 16) where
  pub some_stands : (b : ℕ) (t : List ℕ) → unled 48 s ≡ b ∷ t → numeral (decimal s) ≡ b ∷ t
  some_stands b t e =
      let q : decimal s ≡ decimal (b ∷ t) = sym (unled_same s) ∙ ap decimal e in
      rw q (stands b t (rw e at (unled_only s only)) (unled_first s b t e) (rw q at small))

  -- the digits that are left, or none but zeros
  pub whole_some : (unled 48 s ≡ [] → ⊥) → numeral (decimal s) ≡ unled 48 s
  whole_some some = go (unled 48 s) refl
    where
      go : (x : List ℕ) → unled 48 s ≡ x → numeral (decimal s) ≡ unled 48 s
      go [] e = absurd (some e)
      go (b ∷ t) e = some_stands b t e ∙ sym e

pub unled_zero : (s : List ℕ) → unled 48 s ≡ [] → decimal s ≡ 0
unfolding decimal_from
unled_zero s e = sym (unled_same s) ∙ ap decimal e

pub whole_none : (s : List ℕ) → unled 48 s ≡ [] → numeral (decimal s) ≡ 48 ∷ []
unfolding numeral digits_of count_from padded
whole_none s e = ap numeral (unled_zero s e)
