-- THE FORM OF AN EXPORTED NUMBER: "Numbers have a digit or more before the point without needless zeros, their decimals, and no point where
-- there are none" (document 02, C-16).
use Rattle.std.specs.Prelude.{◌≡◌, refl, true, cond, List, [], ◌∷◌, ◌++◌, ℕ, zero, suc, ◌/◌, ◌%◌, ◌^◌, ◌≤◌, ◌<◌}
use Rattle.std.specs.Prelude.{eqb, ℤ, length, get_or}
use Rattle.std.proofs.Common.{mod-eq_of_lt, le-div_iff_mul-le, div-lt_iff_lt-mul, div-le_self, lt_of_le_of_lt, one-mul, arith}
use Rattle.std.proofs.Common.{⊎_elim}
use Rattle.std.proofs.Math.Nat.{pow-succ'}
use Rattle.below.specs.Below.{lt_or_le}
use Rattle.ascii.specs.rule.Tens.{digits_of}
use Rattle.ascii.specs.Tens.{digits_hold, digits_some, digits_least}
use Rattle.cells.specs.rule.Cell.{signed_of}
use Rattle.widths.specs.Width.{ten_some}
use Rattle.fields.specs.rule.Number.{digits_only, padded}
use Rattle.fieldlaws.specs.NumberLaws.{length_padded, padded_digits}
use Rattle.lines.specs.rule.Text.{numeral}
use Rattle.value_fields.specs.rule.Values.{amount_text, export_number}

-- a size with k decimals, in the paper's words
pub record Formed (k : ℕ) (s : List ℕ) : Type 0 where
  pub whole : List ℕ
  pub decimals : List ℕ
  pub some : 1 ≤ length whole
  pub digits : digits_only whole ≡ true
  pub needed : 2 ≤ length whole → get_or whole 0 0 ≡ 48 → ⊥
  pub counted : length decimals ≡ k
  pub figures : digits_only decimals ≡ true
  pub is : s ≡ whole ++ cond (eqb k 0) [] (46 ∷ decimals)

-- a number of two digits or more begins with none that is zero
leading : (n k : ℕ) → n < 10 ^ 16 → digits_of n ≡ suc k → 1 ≤ k → 1 ≤ n / 10 ^ k % 10
leading n k h e some =
    let few : n < 10 ^ suc k = rw e at (digits_hold n h) in
    let below : n / 10 ^ k < 10 = (div-lt_iff_lt-mul (ten_some k)).1 (rw pow-succ' at few) in
    rw (mod-eq_of_lt below) (⊎_elim (λ l. absurd (omega (arith, digits_least n k some l))) (λ l. reached l) (lt_or_le n (10 ^ k)))
  where
    reached : 10 ^ k ≤ n → 1 ≤ n / 10 ^ k
    reached l = (le-div_iff_mul-le (ten_some k)).1 (rw one-mul l)

numeral_needed : (n : ℕ) → n < 10 ^ 16 → 2 ≤ length (numeral n) → get_or (numeral n) 0 0 ≡ 48 → ⊥
unfolding numeral padded
numeral_needed n h = by (digits_of n) refl where
  by : (j : ℕ) → digits_of n ≡ j → 2 ≤ length (padded j n) → get_or (padded j n) 0 0 ≡ 48 → ⊥
  by zero e l z = omega arith
  by (suc k) e l z = let m = leading n k h e (omega (arith, length_padded k n)) in omega arith

pub amount_formed : (k n : ℕ) → n < 10 ^ 16 → Formed k (amount_text k n)
unfolding amount_text numeral
amount_formed k n h =
    let m = n / 10 ^ k in
    record {
      whole = numeral m;
      decimals = padded k n;
      some = rw length_padded (digits_some m);
      digits = padded_digits (digits_of m) m;
      needed = numeral_needed m (lt_of_le_of_lt (div-le_self n (10 ^ k)) h);
      counted = length_padded k n;
      figures = padded_digits k n;
      is = refl;
    }

-- with its minus, exactly where it is below zero
pub number_formed : (k : ℕ) (z : ℤ) → (signed_of z).size < 10 ^ 16
    → (s : List ℕ) × Formed k s × (export_number k z ≡ cond (signed_of z).minus (45 ∷ s) s)
unfolding export_number
number_formed k z h = (amount_text k (signed_of z).size, amount_formed k (signed_of z).size h, refl)
