-- Theorems of specs/Plain.antt, kept here: a wrong definition is refused by them.
use Rattle.std.specs.Prelude.{◌≡◌, refl, Bool, true, false, cond, List, [], ◌∷◌, ◌++◌, ℕ, zero, suc, ◌+◌, ◌/◌, ◌%◌, ◌^◌}
use Rattle.std.specs.Prelude.{eqb, ℤ}
use Rattle.std.proofs.Common.{arith, ne_eqb}
use Rattle.cells.specs.rule.Cell.{signed_of}
use Rattle.ascii.specs.rule.Tens.{digits_of}
use Rattle.fields.specs.rule.Number.{padded}
use Rattle.lines.specs.rule.Text.{numeral}
use Rattle.commas.specs.rule.Csv.{is_special, holds_special}
use Rattle.value_fields.specs.rule.Values.{amount_text, export_number, codes_behind, set_text}
use Rattle.value_fields.specs.Plain.{plain_join}

digit_plain : (x : ℕ) → is_special (48 + x % 10) ≡ false
unfolding is_special
digit_plain x =
    rw (
      ne_eqb (48 + x % 10) 44 (λ e. omega arith),
      ne_eqb (48 + x % 10) 34 (λ e. omega arith),
      ne_eqb (48 + x % 10) 13 (λ e. omega arith),
      ne_eqb (48 + x % 10) 10 (λ e. omega arith),
    )

padded_plain : (k n : ℕ) → holds_special (padded k n) ≡ false
unfolding padded holds_special
padded_plain zero n = refl
padded_plain (suc k) n = rw (digit_plain (n / 10 ^ k)) (padded_plain k n)

amount_plain : (k n : ℕ) → holds_special (amount_text k n) ≡ false
unfolding amount_text numeral holds_special is_special
amount_plain k n = plain_join (padded (digits_of (n / 10 ^ k)) (n / 10 ^ k)) _ (padded_plain (digits_of (n / 10 ^ k)) (n / 10 ^ k))
    (go (eqb k 0))
  where
    go : (q : Bool) → holds_special (cond q [] ((46 ∷ []) ++ padded k n)) ≡ false
    go true = refl
    go false = padded_plain k n

pub number_plain : (k : ℕ) (z : ℤ) → holds_special (export_number k z) ≡ false
unfolding export_number holds_special is_special
number_plain k z = go (signed_of z).minus
  where
    go : (q : Bool) → holds_special (cond q ((45 ∷ []) ++ amount_text k (signed_of z).size) (amount_text k (signed_of z).size)) ≡ false
    go true = amount_plain k (signed_of z).size
    go false = amount_plain k (signed_of z).size

codes_plain : (ms : List ℤ) → holds_special (codes_behind ms) ≡ false
unfolding codes_behind holds_special is_special
codes_plain [] = refl
codes_plain (m ∷ ms) = plain_join (export_number 0 m) (codes_behind ms) (number_plain 0 m) (codes_plain ms)

pub set_plain : (ms : List ℤ) → holds_special (set_text ms) ≡ false
unfolding set_text holds_special is_special
set_plain [] = refl
set_plain (m ∷ ms) = plain_join (export_number 0 m) (codes_behind ms) (number_plain 0 m) (codes_plain ms)
