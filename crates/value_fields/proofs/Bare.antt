-- Theorems of specs/Bare.antt, kept here: a wrong definition is refused by them.
use Rattle.std.specs.Prelude.{◌≡◌, Bool, cond, ◌&&◌, ℕ, zero, suc, ◌+◌, ◌-◌, ◌*◌, ◌/◌, ◌^◌, ◌≤◌, ◌<◌, leb, ℤ, pos, take, drop, get_or}
use Rattle.std.proofs.Math.Path.{refl, sym, ap}
use Rattle.std.proofs.Common.{◌∙◌, lt_of_le_of_lt, div-le_self, length-drop, take-append-drop, drop_of_length-le, drop-cons, length-take-le}
use Rattle.std.proofs.Math.Bool.{true, false}
use mathlib.Core.List.{List, [], ◌∷◌, ◌++◌, append-nil}
use Rattle.std.proofs.Math.Nat.{sub-zero, pow-le-pow_right}
use native.Mathlib.Omega.{arith}
use borrow.Author.Tests.{eqb-true, eq-eqb, ne_eqb, leb-true}
use Rattle.std.proofs.Math.Dec.{eqb}
use Rattle.std.proofs.Math.ListN.{length}
use Rattle.std.proofs.lemmas.List.{drop-append-le}
use Rattle.std.proofs.Math.Seq.{take-length, take-nil}
use Rattle.below.specs.Below.{and_left, and_right}
use Rattle.cells.specs.rule.Cell.{eq_z, signed_of, number_of}
use Rattle.layout.specs.declared.Format.{Format}
use Rattle.widths.specs.rule.Width.{tail_of, least_whole}
use Rattle.fields.specs.rule.Number.{Said, blank, says, wrong, unspaced, digits_only, decimal_from, decimal, code_after, code_of, padded}
use Rattle.fields.specs.rule.Number.{whole_part, decimal_part, point_stands, amount_form, amount_size, amount_of, quantity_of}
use Rattle.fields.specs.rule.Field.{single_says, single_field, quantity_field}
use Rattle.numbers.specs.rule.Format.{FormatFacts}
use Rattle.numbers.proofs.Laws.{rest_is}
use Rattle.sets.specs.rule.Sets.{is_illegal}
use Rattle.readings.specs.Answer.{numeral_field}
use Rattle.lines.specs.rule.Text.{numeral}
use Rattle.commas.specs.rule.Csv.{field_bytes}
use Rattle.bare_digits.specs.Bare.{unled, unled_same, unled_only, unled_first, unled_zero, least, some_stands, whole_some, whole_none}
use Rattle.bare_digits.specs.Bare.{digits_above, digits_stand}
use Rattle.value_fields.specs.rule.Values.{amount_text, export_field}
use Rattle.value_fields.proofs.Values.{amount_none, number_amount}
use Rattle.value_fields.specs.Legal.{Told}
use Rattle.value_fields.proofs.Legal.{said_blank, said_zero, said_number, said_wrong, count_code}
use Rattle.value_fields.specs.Bare.{tail_text}

-- ---- a code's field: its digits, and nothing where it is missing
module _ (ok : ℤ → Bool) where
  digits_field : (d : List ℕ) → digits_only d ≡ true → decimal d < 10 ^ 16 → is_illegal (single_says ok (says (pos (decimal d)))) ≡ false
      → unled 48 d ≡ field_bytes (export_field 0 (single_says ok (says (pos (decimal d)))))
  unfolding numeral_field eq_z
  digits_field d only small g = go (unled 48 d) refl
    where
      go : (x : List ℕ) → unled 48 d ≡ x → x ≡ field_bytes (export_field 0 (single_says ok (says (pos (decimal d)))))
      go [] e = said_zero 0 ok true (pos (decimal d)) (eq-eqb (decimal d) 0 (unled_zero d e))
      go (b ∷ t) e =
          let q : decimal d ≡ decimal (b ∷ t) = sym (unled_same d) ∙ ap decimal e in
          let l = least b t (rw e at (unled_only d only)) (unled_first d b t e) in
          let p : 1 ≤ 10 ^ length t = pow-le-pow_right {n = 10} (omega arith) {i = 0} (omega arith) in
          let z : decimal d ≡ 0 → ⊥ = λ h. omega arith in
          sym (some_stands d only small b t e) ∙ count_code (decimal d)
          ∙ said_number 0 ok true (pos (decimal d)) (ne_eqb (decimal d) 0 z) g

  code_field : (d : List ℕ) → Told (code_after d) → is_illegal (single_says ok (code_after d)) ≡ false
      → unled 48 d ≡ field_bytes (export_field 0 (single_says ok (code_after d)))
  unfolding code_after numeral_field unled decimal_from signed_of
  code_field [] told g = said_blank 0 ok true
  code_field (b ∷ t) told g = go (digits_only (b ∷ t)) refl told g
    where
      go : (x : Bool) → digits_only (b ∷ t) ≡ x → Told (cond x (says (pos (decimal (b ∷ t)))) wrong)
          → is_illegal (single_says ok (cond x (says (pos (decimal (b ∷ t)))) wrong)) ≡ false
          → unled 48 (b ∷ t) ≡ field_bytes (export_field 0 (single_says ok (cond x (says (pos (decimal (b ∷ t)))) wrong)))
      go true e h g = digits_field (b ∷ t) e (h (pos (decimal (b ∷ t))) refl) g
      go false e h g = said_wrong 0 ok true g

  pub single_bare : (s : List ℕ) → Told (code_of s) → is_illegal (single_field ok s) ≡ false
      → unled 48 (unspaced s) ≡ field_bytes (export_field 0 (single_field ok s))
  unfolding code_of
  single_bare s told g = code_field (unspaced s) told g

-- ---- an amount: the digits before the point, and what follows them where there are decimals
join_decimal : (x : List ℕ) (n : ℕ) (y : List ℕ) → decimal_from n (x ++ y) ≡ decimal_from (decimal_from n x) y
unfolding decimal_from
join_decimal [] n y = refl
join_decimal (b ∷ x) n y = join_decimal x (n * 10 + (b - 48)) y

cut : (z k : ℕ) (s : List ℕ) → z ≤ k → drop z (take k s) ≡ take (k - z) (drop z s)
cut zero k s h = rw sub-zero
cut (suc z) zero s h = absurd (omega arith)
cut (suc z) (suc k) [] h = sym (take-nil (suc k - suc z))
cut (suc z) (suc k) (b ∷ s) h = let e : suc k - suc z ≡ k - z = omega arith in rw e (cut z k s (omega arith))

module _ (f : Format) (facts : FormatFacts f) (s : List ℕ) (form : amount_form f s ≡ true) where
  pub amount_room : least_whole f + tail_of f ≤ length s
  unfolding amount_form
  amount_room = leb-true _ _ (and_left (leb (least_whole f + tail_of f) (length s)) _ form)

  rest_form : (digits_only (whole_part f s) && (point_stands f s && digits_only (decimal_part f s))) ≡ true
  unfolding amount_form
  rest_form = and_right (leb (least_whole f + tail_of f) (length s)) _ form

  pub whole_only : digits_only (whole_part f s) ≡ true
  whole_only = and_left (digits_only (whole_part f s)) _ rest_form

  tail_form : (point_stands f s && digits_only (decimal_part f s)) ≡ true
  tail_form = and_right (digits_only (whole_part f s)) _ rest_form

  plain_size : eqb f.point 0 ≡ true → (amount_size f s ≡ decimal (whole_part f s)) × (f.decimals ≡ 0)
  unfolding amount_size tail_of
  plain_size e = (rw (e, sub-zero, take-length), facts.plain (eqb-true f.point 0 e))

  module _ (e : eqb f.point 0 ≡ false) where
    tail_is : tail_of f ≡ f.decimals + 1
    unfolding tail_of
    tail_is = rw e

    point : get_or s (length s - tail_of f) 0 ≡ 46
    point = eqb-true _ _ (rw e at (and_left (point_stands f s) (digits_only (decimal_part f s)) tail_form))

    decimals_only : digits_only (decimal_part f s) ≡ true
    decimals_only = and_right (point_stands f s) (digits_only (decimal_part f s)) tail_form

    decimals_many : length (decimal_part f s) ≡ f.decimals
    decimals_many = length-drop (length s - f.decimals) s ∙ (let t = tail_is in let r = amount_room in omega arith)

    after : drop (length s - tail_of f) s ≡ 46 ∷ decimal_part f s
    after =
        let t = tail_is in
        let r = amount_room in
        let j : suc (length s - tail_of f) ≡ length s - f.decimals = omega arith in
        drop-cons s (length s - tail_of f) 0 (omega arith) ∙ rw (point, j)

    size_is : amount_size f s ≡ decimal_from (decimal (whole_part f s)) (decimal_part f s)
    unfolding amount_size
    size_is = rw e (join_decimal (whole_part f s) 0 (decimal_part f s))

    over : amount_size f s / 10 ^ f.decimals ≡ decimal (whole_part f s)
    over = rw size_is (rw decimals_many at (digits_above (decimal (whole_part f s)) (decimal_part f s) decimals_only))

    under : padded f.decimals (amount_size f s) ≡ decimal_part f s
    under = rw size_is (rw decimals_many at (digits_stand (decimal_part f s) (decimal (whole_part f s)) decimals_only))

  amount_text_lem : amount_text f.decimals (amount_size f s) ≡ numeral (decimal (whole_part f s)) ++ tail_text f s
  unfolding amount_text
  amount_text_lem = go (eqb f.point 0) refl
    where
      go : (b : Bool) → eqb f.point 0 ≡ b → amount_text f.decimals (amount_size f s) ≡ numeral (decimal (whole_part f s)) ++ tail_text f s
      go true e =
          let p = plain_size e in
          sym (amount_none f.decimals (amount_size f s) p.1) ∙ ap numeral p.0
          ∙ rw (eq-eqb f.decimals 0 p.1) (sym (append-nil _))
      go false e = rw (over e, under e, after e)

  -- no larger than the whole
  pub whole_small : amount_size f s < 10 ^ 16 → decimal (whole_part f s) < 10 ^ 16
  whole_small h = go (eqb f.point 0) refl
    where
      go : (b : Bool) → eqb f.point 0 ≡ b → decimal (whole_part f s) < 10 ^ 16
      go true e = rw (plain_size e).0 at h
      go false e = rw (over e) at (lt_of_le_of_lt (div-le_self (amount_size f s) (10 ^ f.decimals)) h)

  module _ (z k e : ℕ) (at : k ≡ length s - tail_of f) (low : z ≤ k) (end : e ≡ cond (eqb f.decimals 0) k (length s)) where
    sent : drop z (take k s) ++ tail_text f s ≡ take (e - z) (drop z s)
    sent = rw (← at) (go (eqb f.decimals 0) (end))
      where
        low_is : z ≤ length (take k s)
        low_is = rw (length-take-le k s (omega arith)) low

        go : (b : Bool) → e ≡ cond b k (length s) → drop z (take k s) ++ cond b [] (drop k s) ≡ take (e - z) (drop z s)
        go true q = append-nil (drop z (take k s)) ∙ cut z k s low ∙ ap (λ (i : ℕ). take (i - z) (drop z s)) (sym q)
        go false q = sym (drop-append-le z (take k s) (drop k s) low_is) ∙ ap (drop z) (take-append-drop k s)
            ∙ sym (rest_is s z (omega arith)) ∙ ap (λ (i : ℕ). take (i - z) (drop z s)) (sym q)

    whole_is : whole_part f s ≡ take k s
    whole_is = ap (λ (i : ℕ). take i s) (sym at)

    module _ (led : unled 48 (take k s) ≡ drop z (take k s)) where
      led_is : unled 48 (whole_part f s) ≡ drop z (take k s)
      led_is = ap (unled 48) whole_is ∙ led

      pub size_some : amount_size f s < 10 ^ 16 → z < k → take (e - z) (drop z s) ≡ amount_text f.decimals (amount_size f s)
      size_some small l = sym (amount_text_lem
          ∙ ap (λ (x : List ℕ). x ++ tail_text f s) (whole_some (whole_part f s) whole_only (whole_small small) some ∙ led_is) ∙ sent)
        where
          some : unled 48 (whole_part f s) ≡ [] → ⊥
          some q =
              let m = ap length (sym led_is ∙ q) in
              let n = length-take-le k s (omega arith) in
              let d = length-drop z (take k s) in
              omega arith

      pub size_none : k ≤ z → (48 ∷ []) ++ take (e - z) (drop z s) ≡ amount_text f.decimals (amount_size f s)
      size_none l =
          let n = length-take-le k s (omega arith) in
          let none : drop z (take k s) ≡ [] = drop_of_length-le (take k s) {i = z} (omega arith) in
          let t : tail_text f s ≡ take (e - z) (drop z s) = rw none at sent in
          rw (← t) (sym (amount_text_lem ∙ ap (λ (x : List ℕ). x ++ tail_text f s) (whole_none (whole_part f s) (led_is ∙ none))))

-- ---- a quantity without a minus: its amount
module _ (f : Format) (s d : List ℕ) (is : quantity_of f s ≡ amount_of f false d) where
  pub form_of : (quantity_of f s ≡ wrong → ⊥) → amount_form f d ≡ true
  unfolding amount_of
  form_of fine = go (amount_form f d) refl
    where
      go : (b : Bool) → amount_form f d ≡ b → amount_form f d ≡ true
      go true e = e
      go false e = absurd (fine (is ∙ rw e))

  module _ (form : amount_form f d ≡ true) where
    says_amount : quantity_of f s ≡ says (pos (amount_size f d))
    unfolding amount_of number_of
    says_amount = is ∙ rw form

    pub amount_small : Told (quantity_of f s) → amount_size f d < 10 ^ 16
    unfolding signed_of
    amount_small told = told (pos (amount_size f d)) says_amount

    pub quantity_bare : (ok : ℤ → Bool) → is_illegal (quantity_field f ok s) ≡ false
        → amount_text f.decimals (amount_size f d) ≡ field_bytes (export_field f.decimals (quantity_field f ok s))
    unfolding numeral_field signed_of
    quantity_bare ok g = rw says_amount (number_amount f.decimals (pos (amount_size f d)) (signed_of (pos (amount_size f d))) refl refl
        ∙ said_number f.decimals ok false (pos (amount_size f d)) refl (rw says_amount at g))

pub quantity_empty : (f : Format) (s : List ℕ) → quantity_of f s ≡ blank → (ok : ℤ → Bool)
    → [] ≡ field_bytes (export_field f.decimals (quantity_field f ok s))
unfolding numeral_field
quantity_empty f s e ok = rw e (said_blank f.decimals ok false)

-- what is said in a legal field is a number, or nothing
pub well_of : (m : Bool) (ok : ℤ → Bool) (x : Said) → is_illegal (numeral_field m ok x) ≡ false → x ≡ wrong → ⊥
well_of m ok x g e = said_wrong 0 ok m (rw e at g)
