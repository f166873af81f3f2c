-- Theorems of specs/Values.antt, kept here: a wrong definition is refused by them.
use Rattle.std.specs.Prelude.{◌≡◌, refl, Bool, true, false, cond, List, [], ◌∷◌, ◌++◌, ℕ, ◌/◌, ◌^◌, ℤ}
use Rattle.std.specs.Prelude.{take, drop}
use Rattle.std.proofs.Common.{sym, ◌∙◌, div-one, eq-eqb, ne_eqb}
use Rattle.std.proofs.Math.Path.{ap}
use Rattle.cells.specs.rule.Cell.{signed_of}
use Rattle.cells.specs.declared.Signed.{Signed}
use Rattle.fields.specs.rule.Number.{padded}
use Rattle.lines.specs.rule.Text.{numeral}
use Rattle.lines.specs.Lines.{value_of}
use Rattle.readings.specs.declared.Answer.{Answer}
use Rattle.readings.specs.declared.Answer.TheVariants.{Missing, Number, Set, Text, Truth}
use Rattle.commas.specs.rule.Csv.{holds_special, field_bytes}
use Rattle.commas.specs.Csv.{field_plain}
use Rattle.value_fields.specs.rule.Values.{amount_text, export_number, set_text, export_value}
use Rattle.value_fields.specs.Plain.{truth_plain}
use Rattle.value_fields.proofs.Plain.{number_plain, set_plain}

-- a size by its decimals
pub amount_whole : (k n : ℕ) → k ≡ 0 → numeral (n / 10 ^ k) ≡ amount_text k n
unfolding amount_text
amount_whole k n e = rw (eq-eqb k 0 e) (sym (append_none (numeral (n / 10 ^ k))))
  where
    append_none : (s : List ℕ) → s ++ [] ≡ s
    append_none [] = refl
    append_none (b ∷ s) = ap (λ (l : List ℕ). b ∷ l) (append_none s)

count_amount : (n : ℕ) → numeral n ≡ amount_text 0 n
count_amount n = sym (sym (amount_whole 0 n refl) ∙ ap numeral (div-one n))

pub amount_none : (k n : ℕ) → k ≡ 0 → numeral n ≡ amount_text k n
amount_none k n e = count_amount n ∙ ap (λ (j : ℕ). amount_text j n) (sym e)

pub amount_parts : (k n : ℕ) → (k ≡ 0 → ⊥) → numeral (n / 10 ^ k) ++ ((46 ∷ []) ++ padded k n) ≡ amount_text k n
unfolding amount_text
amount_parts k n e = rw (ne_eqb k 0 e)

-- a number by its sign
module _ (k : ℕ) (z : ℤ) (s : Signed) (e : s ≡ signed_of z) where
  pub number_minus : s.minus ≡ true → (45 ∷ []) ++ amount_text k s.size ≡ export_number k z
  unfolding export_number
  number_minus m = rw (← e, m)

  pub number_amount : s.minus ≡ false → amount_text k s.size ≡ export_number k z
  unfolding export_number
  number_amount m = rw (← e, m)

-- a code has neither minus nor decimals
pub code_count : (z : ℤ) (s : Signed) → s ≡ signed_of z → (signed_of z).minus ≡ false → numeral s.size ≡ export_number 0 z
code_count z s e m = count_amount s.size ∙ number_amount 0 z s e (ap (λ (x : Signed). x.minus) e ∙ m)

-- ---- an answer's field by its case
module _ (k : ℕ) (a : Answer) (list : List ℤ) (bytes : List ℕ) where
  pub missing_field : a ≡ Missing → [] ≡ field_bytes (export_value k (value_of a list bytes))
  unfolding export_value value_of field_bytes holds_special
  missing_field e = rw e

  pub number_field : {z : ℤ} → a ≡ Number z → export_number k z ≡ field_bytes (export_value k (value_of a list bytes))
  unfolding export_value value_of
  number_field {z} e = rw e (field_plain (export_number k z) (number_plain k z))

  pub set_field : {n : ℕ} → a ≡ Set n → set_text (take n list) ≡ field_bytes (export_value k (value_of a list bytes))
  unfolding export_value value_of
  set_field {n} e = rw e (field_plain (set_text (take n list)) (set_plain (take n list)))

  pub text_field_lem : {p n : ℕ} → a ≡ Text p n → field_bytes (take n (drop p bytes)) ≡ field_bytes (export_value k (value_of a list bytes))
  unfolding export_value value_of
  text_field_lem e = rw e

  pub truth_field_lem : {b : Bool} → a ≡ Truth b → cond b 49 48 ∷ [] ≡ field_bytes (export_value k (value_of a list bytes))
  unfolding export_value value_of
  truth_field_lem {b} e = rw e (field_plain (cond b 49 48 ∷ []) (truth_plain b))
