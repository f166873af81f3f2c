-- Theorems of specs/Legal.antt, kept here: a wrong definition is refused by them.
use Rattle.std.specs.Prelude.{◌≡◌, Bool, cond, ◌&&◌, ℤ, pos, negsuc, get_or, take}
use Rattle.std.proofs.Math.Path.{refl, sym}
use Rattle.std.proofs.Common.{◌∙◌, add-zero}
use Rattle.std.proofs.Math.Bool.{true, false}
use mathlib.Core.List.{List, [], ◌∷◌}
use Prim.Native.Nat.{ℕ, zero, suc, ◌+◌, ◌-◌, ◌^◌, ◌≤◌, ◌<◌}
use Rattle.std.proofs.Math.Nat.{sub-zero}
use native.Mathlib.Omega.{arith}
use borrow.Author.Tests.{ne_eqb, eqb-true}
use Rattle.std.proofs.Math.Dec.{eqb}
use Rattle.below.specs.Below.{holds_not}
use Rattle.cells.specs.rule.Cell.{eq_z, signed_of}
use Rattle.places.specs.rule.Places.{pick}
use Rattle.fields.specs.rule.Number.{Said, blank, says, wrong, all_spaces}
use Rattle.fields.specs.rule.Field.{holds, illegal, missing, number, members, text, truth, number_field, single_says, quantity_says}
use Rattle.fields.specs.rule.Field.{all_bits, set_bits, bits_field, all_plain, unended, text_field, truth_field}
use Rattle.fields.specs.rule.Row.{defined, bit_places}
use Rattle.sets.specs.rule.Sets.{is_illegal}
use Rattle.sets.specs.Full.{always}
use Rattle.readings.specs.Answer.{numeral_field}
use Rattle.lines.specs.rule.Text.{numeral}
use Rattle.commas.specs.rule.Csv.{holds_special, field_bytes}
use Rattle.commas.specs.Csv.{field_plain}
use Rattle.value_fields.specs.rule.Values.{export_number, set_text, export_value, export_field}
use Rattle.value_fields.proofs.Values.{code_count}
use Rattle.value_fields.specs.Plain.{truth_plain}
use Rattle.value_fields.proofs.Plain.{number_plain, set_plain}
use Rattle.value_fields.specs.Legal.{Told, bits_from, each_field, bytes}

-- ---- numbers
number_told : (ok : ℤ → Bool) (z : ℤ) → is_illegal (number_field ok z) ≡ false → ok z ≡ true
unfolding is_illegal number_field
number_told ok z g = go (ok z) g
  where
    go : (b : Bool) → is_illegal (cond b (holds (number z)) illegal) ≡ false → b ≡ true
    go true h = refl
    go false h = holds_not refl h

zero_small : (z : ℤ) → eq_z z (pos 0) ≡ true → (signed_of z).size < 10 ^ 16
unfolding eq_z signed_of
zero_small (pos n) e = let h = eqb-true n 0 e in omega arith
zero_small (negsuc n) e = holds_not e refl

module _ (ok : ℤ → Bool) (small : (z : ℤ) → ok z ≡ true → (signed_of z).size < 10 ^ 16) where
  told_says : (m : Bool) (z : ℤ) → is_illegal (numeral_field m ok (says z)) ≡ false → (signed_of z).size < 10 ^ 16
  unfolding numeral_field single_says quantity_says is_illegal
  told_says false z g = small z (number_told ok z g)
  told_says true z g = go (eq_z z (pos 0)) refl g
    where
      go : (b : Bool) → eq_z z (pos 0) ≡ b → is_illegal (cond b (holds missing) (number_field ok z)) ≡ false → (signed_of z).size < 10 ^ 16
      go true e h = zero_small z e
      go false e h = small z (number_told ok z h)

  pub told_of : (m : Bool) (x : Said) → is_illegal (numeral_field m ok x) ≡ false → Told x
  told_of m x g z e = told_says m z (rw e at g)

module _ (k : ℕ) (ok : ℤ → Bool) where
  pub said_blank : (m : Bool) → [] ≡ field_bytes (export_field k (numeral_field m ok blank))
  unfolding numeral_field single_says quantity_says export_field export_value field_bytes holds_special
  said_blank true = refl
  said_blank false = refl

  pub said_zero : (m : Bool) (z : ℤ) → (m && eq_z z (pos 0)) ≡ true → [] ≡ field_bytes (export_field k (numeral_field m ok (says z)))
  unfolding numeral_field single_says export_field export_value field_bytes holds_special
  said_zero true z e = rw e
  said_zero false z e = holds_not e refl

  number_said : (z : ℤ) → is_illegal (number_field ok z) ≡ false → export_number k z ≡ field_bytes (export_field k (number_field ok z))
  unfolding number_field export_field export_value
  number_said z g = rw (number_told ok z g) (field_plain (export_number k z) (number_plain k z))

  pub said_number : (m : Bool) (z : ℤ) → (m && eq_z z (pos 0)) ≡ false → is_illegal (numeral_field m ok (says z)) ≡ false
      → export_number k z ≡ field_bytes (export_field k (numeral_field m ok (says z)))
  unfolding numeral_field single_says quantity_says
  said_number true z e g = rw e (number_said z (rw e at g))
  said_number false z e g = number_said z g

  pub said_wrong : {A : Type 0} (m : Bool) → is_illegal (numeral_field m ok wrong) ≡ false → A
  unfolding numeral_field single_says quantity_says is_illegal
  said_wrong true g = holds_not refl g
  said_wrong false g = holds_not refl g

-- ---- texts
pub words_field : (s : List ℕ) (n : ℕ) → unended s ≡ take n s → all_spaces s ≡ eqb n 0 → is_illegal (text_field s) ≡ false
    → take n s ≡ export_field 0 (text_field s)
unfolding text_field export_field export_value is_illegal
words_field s zero u a g = rw a
words_field s (suc n) u a g =
    let b : all_spaces s ≡ false = a ∙ ne_eqb (suc n) 0 (λ e. omega arith) in
    rw b (go (all_plain s) (rw b at g))
  where
    go : (b : Bool) → is_illegal (cond b (holds (text (unended s))) illegal) ≡ false
        → take (suc n) s ≡ export_field 0 (cond b (holds (text (unended s))) illegal)
    go true h = sym u
    go false h = holds_not refl h

-- ---- truths
module _ (b : ℕ) where
  pub truth_none : b ≡ 32 → [] ≡ field_bytes (export_field 0 (truth_field (b ∷ [])))
  unfolding truth_field all_spaces export_field export_value field_bytes holds_special
  truth_none e = rw e

  pub truth_byte : (b ≡ 32 → ⊥) → is_illegal (truth_field (b ∷ [])) ≡ false → b ∷ [] ≡ field_bytes (export_field 0 (truth_field (b ∷ [])))
  unfolding truth_field all_spaces export_field export_value is_illegal
  truth_byte ne g = rw (ne_eqb b 32 ne) (go (eqb b 49) (eqb b 48) refl refl (rw (ne_eqb b 32 ne) at g))
    where
      go : (p q : Bool) → eqb b 49 ≡ p → eqb b 48 ≡ q
          → is_illegal (cond p (holds (truth true)) (cond q (holds (truth false)) illegal)) ≡ false
          → b ∷ [] ≡ field_bytes (export_field 0 (cond p (holds (truth true)) (cond q (holds (truth false)) illegal)))
      go true q e f h = rw (eqb-true b 49 e) (field_plain (49 ∷ []) (truth_plain true))
      go false true e f h = rw (eqb-true b 48 f) (field_plain (48 ∷ []) (truth_plain false))
      go false false e f h = holds_not refl h

pub count_code : (n : ℕ) → numeral n ≡ export_number 0 (pos n)
unfolding signed_of
count_code n = code_count (pos n) (signed_of (pos n)) refl refl

module _ (w : ℕ) (some : 1 ≤ w) (r : List ℕ) (p : ℕ) (good : is_illegal (each_field w r p) ≡ false) where
  abbrev all : List ℕ
  all = pick r (bit_places p (defined always 1 w))

  first : all ≡ get_or r p 0 ∷ pick r (bit_places p (defined always (suc (0 + 1)) (w - (0 + 1))))
  first = rw (sub-zero w, add-zero p) at (bytes w 0 (omega arith) r p)

  pub each_missing : get_or r p 0 ≡ 32 → [] ≡ field_bytes (export_field 0 (each_field w r p))
  unfolding bits_field all_bits is_illegal export_field export_value field_bytes holds_special
  each_missing e = rw none (go (all_spaces all) (rw none at good))
    where
      none : all_bits all ≡ false
      none = rw (first, e)

      go : (b : Bool) → is_illegal (cond b (holds missing) illegal) ≡ false → []
          ≡ field_bytes (export_field 0 (cond b (holds missing) illegal))
      go true h = refl
      go false h = holds_not refl h

  pub each_members : (get_or r p 0 ≡ 32 → ⊥) → set_text (bits_from w r p 0) ≡ field_bytes (export_field 0 (each_field w r p))
  unfolding bits_field all_spaces is_illegal export_field export_value
  each_members ne = rw (sub-zero w, other) (go (all_bits all) (rw other at good))
    where
      other : all_spaces all ≡ false
      other = rw (first, ne_eqb (get_or r p 0) 32 ne)

      go : (b : Bool) → is_illegal (cond b (holds (members (set_bits (defined always 1 w) all))) illegal) ≡ false
          → set_text (set_bits (defined always 1 w) all)
          ≡ field_bytes (export_field 0 (cond b (holds (members (set_bits (defined always 1 w) all))) illegal))
      go true h = field_plain (set_text (set_bits (defined always 1 w) all)) (set_plain (set_bits (defined always 1 w) all))
      go false h = holds_not refl h
