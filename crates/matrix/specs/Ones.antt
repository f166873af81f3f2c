-- A column of zeros and ones: its summary by how many values it has and how many of them are 1.
-- Assumes nothing.
use Rattle.std.specs.Prelude.{◌≡◌, refl, Bool, true, false, ◌⊎◌, ℕ, zero, suc, ◌+◌, ◌-◌, ◌*◌, ◌≤◌, ◌<◌, eqb, length, get_or, take, drop}
use Rattle.std.proofs.Common.{sym, ◌∙◌, inl, arith, eqb-true, eq-eqb, ne_eqb, get_or-drop}
use Rattle.std.proofs.Math.Path.{ap}
use Rattle.std.proofs.Math.Bool.{cond}
use mathlib.Core.List.{List, [], ◌∷◌}
use Rattle.std.proofs.Math.Logic.{⊎_elim}
use Rattle.std.proofs.lemmas.Bool.{eqb-false}
use Rattle.std.specs.Float.Ieee.{Float, of_bits, lt}
use Rattle.std.specs.Float.{binary64}
use Rattle.little.specs.Bytes.{number_at}
use Rattle.little.specs.rule.Bytes.{little_number}
use Rattle.summary.specs.declared.Summary.{Summary}
use Rattle.summary.specs.rule.Summary.{nought, none_summed, lower_of, higher_of, extend_of, extended_by, summary_of}
use Rattle.matrix.specs.Column.{ColumnThere, column_in, there_on, column_on, column_off, column_none}
use Rattle.matrix.specs.Noughts.{all_are, are_at}

-- the float 1.0, by its bits
abbrev pub unit : Float
unit = of_bits binary64 4607182418800017408

-- a value of these bits counted: a 0, or a 1
abbrev pub Counted : ℕ → ℕ → ℕ → Type 0
Counted bits before after = ((bits ≡ 0) × (after ≡ before)) ⊎ ((bits ≡ 4607182418800017408) × (after ≡ before + 1))

-- sixteen columns side by side: their bytes lie in s, their ones can be counted on, one value of each was counted, their summaries are told
pub record AllThere (s : List ℕ) (step flags values records : ℕ) : Type 0 where
  pub at : (j : ℕ) → j < 16 → ColumnThere s step (flags + j) (values + 8 * j) records

pub record AllFew (ones : List ℕ) : Type 0 where
  pub long : length ones ≡ 16
  pub at : (j : ℕ) → j < 16 → get_or ones j 0 < 18446744073709551615

pub record AllCounted (s : List ℕ) (value : ℕ) (before after : List ℕ) (r : Bool) : Type 0 where
  pub long : length after ≡ length before
  pub at : r ≡ true → (j : ℕ) → j < 16 → Counted (number_at 8 (value + 8 * j) s) (get_or before j 0) (get_or after j 0)

-- the summary of n values, of which so many are 1
unfoldable pub told_of : ℕ → ℕ → Summary
told_of n ones = cond (eqb n 0) none_summed (record
    { count = n; least = cond (eqb ones n) unit nought; most = cond (eqb ones 0) nought unit })

pub record AllTold (s : List ℕ) (step flags values records : ℕ) (full : Bool) (n : ℕ) (ones : List ℕ) : Type 0 where
  pub at : full ≡ true → (j : ℕ) → j < 16 → told_of n (get_or ones j 0) ≡ summary_of (column_in s step (flags + j) (values + 8 * j) records)

-- ---- laws
low_nought : (b : Bool) → lower_of (cond b unit nought) nought ≡ nought
unfolding lower_of lt of_bits
low_nought true = refl
low_nought false = refl

low_unit : (b : Bool) → lower_of (cond b unit nought) unit ≡ cond b unit nought
unfolding lower_of lt of_bits
low_unit true = refl
low_unit false = refl

high_nought : (b : Bool) → higher_of (cond b nought unit) nought ≡ cond b nought unit
unfolding higher_of lt of_bits
high_nought true = refl
high_nought false = refl

high_unit : (b : Bool) → higher_of (cond b nought unit) unit ≡ unit
unfolding higher_of lt of_bits
high_unit true = refl
high_unit false = refl

eqb_next : (a b : ℕ) → eqb (a + 1) (b + 1) ≡ eqb a b
eqb_next a b = go (eqb a b) refl
  where
    go : (c : Bool) → eqb a b ≡ c → eqb (a + 1) (b + 1) ≡ eqb a b
    go true e = let q = eqb-true a b e in rw e (eq-eqb (a + 1) (b + 1) (omega arith))
    go false e = let q = eqb-false a b e in rw e (ne_eqb (a + 1) (b + 1) (λ z. q (omega arith)))

bits_nought : nought ≡ of_bits binary64 0
unfolding of_bits
bits_nought = refl

-- a summary by its parts
abbrev parts : ℕ → Float → Float → Summary
parts n a b = record { count = n; least = a; most = b }

parts_same : (n : ℕ) {a b c d : Float} → a ≡ c → b ≡ d → parts n a b ≡ parts n c d
parts_same n {a} {b} {c} {d} e f = ap (λ (x : Float). parts n x b) e ∙ ap (parts n c) f

told_some : (n o : ℕ) → 0 < n → told_of n o ≡ parts n (cond (eqb o n) unit nought) (cond (eqb o 0) nought unit)
unfolding told_of
told_some n o h =
    ap (λ (b : Bool). cond b none_summed (parts n (cond (eqb o n) unit nought) (cond (eqb o 0) nought unit)))
    (ne_eqb n 0 (λ z. absurd (omega arith)))

extend_some : (n : ℕ) (a b x : Float) → 0 < n → extend_of (parts n a b) x ≡ parts (n + 1) (lower_of a x) (higher_of b x)
unfolding extend_of
extend_some n a b x h = ap (λ (t : Bool). cond t (parts 1 x x) (parts (n + 1) (lower_of a x) (higher_of b x)))
    (ne_eqb n 0 (λ z. absurd (omega arith)))

-- one value more
pub told_nought : (n o : ℕ) → o ≤ n → extend_of (told_of n o) nought ≡ told_of (n + 1) o
unfolding told_of extend_of none_summed
told_nought zero o h = let z : o ≡ 0 = omega arith in rw z
told_nought (suc n) o h =
    ap (λ (s : Summary). extend_of s nought) (told_some (suc n) o (omega arith))
    ∙ extend_some (suc n) (cond (eqb o (suc n)) unit nought) (cond (eqb o 0) nought unit) nought (omega arith)
    ∙ parts_same (suc n + 1) (low_nought (eqb o (suc n))
    ∙ sym (ap (λ (b : Bool). cond b unit nought) (ne_eqb o (suc n + 1) (λ z. absurd (omega arith))))) (high_nought (eqb o 0))
    ∙ sym (told_some (suc n + 1) o (omega arith))

pub told_unit : (n o : ℕ) → o ≤ n → extend_of (told_of n o) unit ≡ told_of (n + 1) (o + 1)
unfolding told_of extend_of none_summed
told_unit zero o h = let z : o ≡ 0 = omega arith in rw z
told_unit (suc n) o h =
    ap (λ (s : Summary). extend_of s unit) (told_some (suc n) o (omega arith))
    ∙ extend_some (suc n) (cond (eqb o (suc n)) unit nought) (cond (eqb o 0) nought unit) unit (omega arith)
    ∙ parts_same (suc n + 1) (low_unit (eqb o (suc n)) ∙ sym (ap (λ (b : Bool). cond b unit nought) (eqb_next o (suc n))))
    (high_unit (eqb o 0) ∙ sym (ap (λ (b : Bool). cond b nought unit) (ne_eqb (o + 1) 0 (λ z. absurd (omega arith)))))
    ∙ sym (told_some (suc n + 1) (o + 1) (omega arith))

pub told_none : told_of 0 0 ≡ none_summed
unfolding told_of
told_none = refl

-- ---- the summary case by case
pub told_empty : (n o : ℕ) → n ≡ 0 → told_of n o ≡ none_summed
unfolding told_of
told_empty n o e = rw e

module _ (n o : ℕ) (some : n ≡ 0 → ⊥) where
  told_here : told_of n o ≡ parts n (cond (eqb o n) unit nought) (cond (eqb o 0) nought unit)
  unfolding told_of
  told_here = ap (λ (b : Bool). cond b none_summed (parts n (cond (eqb o n) unit nought) (cond (eqb o 0) nought unit))) (ne_eqb n 0 some)

  pub told_zeros : o ≡ 0 → told_of n o ≡ parts n (of_bits binary64 0) (of_bits binary64 0)
  told_zeros e =
      told_here
      ∙ parts_same n (ap (λ (b : Bool). cond b unit nought) (ne_eqb o n (λ z. some (sym z ∙ e))) ∙ bits_nought)
      (ap (λ (b : Bool). cond b nought unit) (eq-eqb o 0 e) ∙ bits_nought)

  pub told_units : (o ≡ 0 → ⊥) → o ≡ n → told_of n o ≡ parts n unit unit
  told_units z e = told_here ∙ parts_same n (ap (λ (b : Bool). cond b unit nought) (eq-eqb o n e))
      (ap (λ (b : Bool). cond b nought unit) (ne_eqb o 0 z))

  pub told_both : (o ≡ 0 → ⊥) → (o ≡ n → ⊥) → told_of n o ≡ parts n (of_bits binary64 0) unit
  told_both z e = told_here ∙ parts_same n (ap (λ (b : Bool). cond b unit nought) (ne_eqb o n e) ∙ bits_nought)
      (ap (λ (b : Bool). cond b nought unit) (ne_eqb o 0 z))

-- ---- record by record: what is counted so far, extended by what is left of the column, is the whole's
pub record Held (s : List ℕ) (step flags values records flag value left n ones : ℕ) : Type 0 where
  pub few : ones ≤ n
  pub there : ColumnThere s step flag value left
  pub whole : extended_by (told_of n ones) (column_in s step flag value left) ≡ summary_of (column_in s step flags values records)

pub held_none : (s : List ℕ) (step flags values records : ℕ) → ColumnThere s step flags values records
    → Held s step flags values records flags values records 0 0
unfolding summary_of
held_none s step flags values records c =
    record { few = omega arith; there = c; whole = ap (λ (x : Summary). extended_by x (column_in s step flags values records)) told_none }

module _ {s : List ℕ} {step flags values records flag value left n ones : ℕ} (some : 0 < left)
    (h : Held s step flags values records flag value left n ones) where
  -- the record has none
  pub held_off : (get_or s flag 0 ≡ 1 → ⊥) → Held s step flags values records (flag + step) (value + 8 * step) (left - 1) n ones
  held_off e = record {
    few = h.few;
    there = there_on s step flag value left some h.there;
    whole = ap (extended_by (told_of n ones)) (sym (column_off s step flag value left some e)) ∙ h.whole;
  }

  -- it has one, 0 or 1
  pub held_on : {after : ℕ} → get_or s flag 0 ≡ 1 → Counted (number_at 8 value s) ones after
      → Held s step flags values records (flag + step) (value + 8 * step) (left - 1) (n + 1) after
  unfolding extended_by
  held_on {after} e k = record {
    few = ⊎_elim (λ x. omega (arith, x.1, h.few)) (λ x. omega (arith, x.1, h.few)) k;
    there = there_on s step flag value left some h.there;
    whole = ⊎_elim zeroed unitary k ∙ h.whole;
  }
    where
      rest : List Float
      rest = column_in s step (flag + step) (value + 8 * step) (left - 1)

      zeroed : (number_at 8 value s ≡ 0) × (after ≡ ones) → extended_by (told_of (n + 1) after) rest
          ≡ extended_by (told_of n ones) (column_in s step flag value left)
      zeroed x =
          rw (x.1, column_on s step flag value left some e, x.0)
          (ap (λ (t : Summary). extended_by t rest) (sym (told_nought n ones h.few) ∙ ap (extend_of (told_of n ones)) bits_nought))

      unitary : (number_at 8 value s ≡ 4607182418800017408) × (after ≡ ones + 1) → extended_by (told_of (n + 1) after) rest
          ≡ extended_by (told_of n ones) (column_in s step flag value left)
      unitary x =
          rw (x.1, column_on s step flag value left some e, x.0)
          (ap (λ (t : Summary). extended_by t rest) (sym (told_unit n ones h.few)))

pub held_done : {s : List ℕ} {step flags values records flag value left n ones : ℕ} → left ≤ 0
    → Held s step flags values records flag value left n ones
    → told_of n ones ≡ summary_of (column_in s step flags values records)
unfolding extended_by
held_done {s} {step} {flag = flag} {value} {left} {n} {ones} z h = rw (column_none s step flag value left z) at h.whole

-- ---- bytes that are all zero say the number 0
number_zero : (k : ℕ) (s : List ℕ) → ((i : ℕ) → i < k → get_or s i 0 ≡ 0) → little_number (take k s) ≡ 0
unfolding little_number
number_zero zero s h = refl
number_zero (suc k) [] h = refl
number_zero (suc k) (b ∷ s) h =
    let e : b ≡ 0 = h 0 (omega arith) in
    let r = number_zero k s (λ i l. h (suc i) (omega arith)) in
    omega (arith, e, r)

pub zeros_counted : (s : List ℕ) (value j o : ℕ) → j < 16 → all_are s value 128 0 ≡ true → Counted (number_at 8 (value + 8 * j) s) o o
unfolding number_at
zeros_counted s value j o h e =
    inl (
      number_zero 8 (drop (value + 8 * j) s) (λ i l. get_or-drop (value + 8 * j) s i 0
          ∙ (let q : value + 8 * j + i ≡ value + (8 * j + i) = omega arith in rw q (are_at s value 128 0 e (8 * j + i) (omega arith)))),
      refl,
    )
