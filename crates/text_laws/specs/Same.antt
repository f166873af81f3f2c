-- No refusal of any definition changed when {NL} became a break. Before, it was byte 10: the outcome with every break of a name put as byte
-- 10 is the outcome. For neither is a letter or digit.
use Rattle.std.specs.Prelude.{◌≡◌, refl, Bool, true, false, cond, not, ◌&&◌, ◌||◌, List, [], ◌∷◌, ℕ, zero, suc, ◌+◌, ◌≤◌, ◌<◌, ltb}
use Rattle.std.specs.Prelude.{leb, length}
use Rattle.std.proofs.Common.{◌∙◌, sym, ap, ⊎_elim, arith, eq-or-lt_of_le, ne_eqb, le-ltb, lt-ltb}
use Rattle.std.proofs.Math.Bool.{and-false}
use Rattle.below.specs.rule.Below.{any_below}
use Rattle.below.specs.Below.{and_left, and_right}
use Rattle.ascii.specs.rule.Class.{class_of, upper_of, within}
use Rattle.signs.specs.declared.Sign.{Sign}
use Rattle.signs.specs.declared.Sign.TheVariants.{Byte, Break}
use Rattle.scan.specs.rule.Number.{is_digit}
use Rattle.names.specs.rule.Standard.{is_letter, letters_or_digits, begins_with_letter, well_named, agree}
use Rattle.names.specs.rule.Standard.{name_at, name_wrong, name_fault_from}
use Rattle.names.specs.rule.Standard.{name_fault}
use Rattle.names.proofs.Capitals.{letter_upper, digit_upper}
use Rattle.survey.specs.rule.Survey.{Variable, Survey}
use Rattle.reading.specs.rule.Result.{Result, Is, Not}
use Rattle.reading.specs.rule.Whole.{survey_of}
use Rattle.definition.specs.rule.Definition.{names_of, quote_at, SssOutcome, Refusal, sss_fitting, judge_names, sss_settled, sss_outcome}
use Rattle.text_laws.specs.Cut.{none}
use Rattle.text_laws.specs.Breaks.{break_at}

-- ---- a break as byte 10, as it was
abbrev pub as_byte : Sign → Sign
as_byte (Byte b) = Byte b
as_byte Break = Byte 10

unfoldable pub flat : List Sign → List Sign
flat [] = []
flat (x ∷ s) = as_byte x ∷ flat s

unfoldable pub flat_all : List (List Sign) → List (List Sign)
flat_all [] = []
flat_all (s ∷ l) = flat s ∷ flat_all l

-- the outcome as it was
unfoldable pub named_flat : List ℕ → ℕ → Bool → List Variable → SssOutcome
named_flat d n standard l =
    let i = name_fault (flat_all (names_of d l)) in
    cond standard (cond (ltb i (length l)) (Refusal 9 (quote_at l i)) (sss_fitting n l)) (sss_fitting n l)

abbrev pub settled_flat : List ℕ → ℕ → Result Survey → SssOutcome
settled_flat d n (Is s m) = named_flat d n s.heading.standard s.variables
settled_flat d n (Not f) = Refusal f.number f.place

unfoldable pub outcome_flat : List ℕ → ℕ → SssOutcome
outcome_flat d n = cond (ltb 1048576 (length d)) (Refusal 1 0) (settled_flat d n (survey_of d))

-- ---- byte 10 is neither letter nor digit, nor is a break
flat_length : (s : List Sign) → length (flat s) ≡ length s
unfolding flat
flat_length [] = refl
flat_length (x ∷ s) = ap suc (flat_length s)

flat_letters : (s : List Sign) → letters_or_digits (flat s) ≡ letters_or_digits s
unfolding flat letters_or_digits is_letter is_digit class_of
flat_letters [] = refl
flat_letters (Byte b ∷ s) = rw (flat_letters s)
flat_letters (Break ∷ s) = refl

flat_first : (s : List Sign) → begins_with_letter (flat s) ≡ begins_with_letter s
unfolding flat begins_with_letter is_letter class_of
flat_first [] = refl
flat_first (Byte b ∷ s) = refl
flat_first (Break ∷ s) = refl

flat_well : (s : List Sign) → well_named (flat s) ≡ well_named s
unfolding well_named
flat_well s = rw (flat_length s, flat_letters s, flat_first s)

-- so the capital of a letter or digit is not 10
not_ten : (c : ℕ) → (is_letter c || is_digit c) ≡ true → upper_of c ≡ 10 → ⊥
not_ten c e f = by (is_letter c) (is_digit c) (letter_upper c ∙ ap (within 65 90) f) (digit_upper c ∙ ap (within 48 57) f) e where
  by : (x y : Bool) → x ≡ false → y ≡ false → (x || y) ≡ true → ⊥
  by true y g h e = none cc
  by false true g h e = none cc
  by false false g h e = none cc

-- what letters and digits have at their front, and behind it
no_break : {A : Type 0} (t : List Sign) → letters_or_digits (Break ∷ t) ≡ true → A
unfolding letters_or_digits
no_break t h = none cc

front : (c : ℕ) (t : List Sign) → letters_or_digits (Byte c ∷ t) ≡ true → (is_letter c || is_digit c) ≡ true
unfolding letters_or_digits
front c t h = and_left (is_letter c || is_digit c) (letters_or_digits t) h

behind : (c : ℕ) (t : List Sign) → letters_or_digits (Byte c ∷ t) ≡ true → letters_or_digits t ≡ true
unfolding letters_or_digits
behind c t h = and_right (is_letter c || is_digit c) (letters_or_digits t) h

ten : upper_of 10 ≡ 10
unfolding upper_of
ten = refl

flat_agree : (s t : List Sign) → letters_or_digits t ≡ true → agree (flat s) (flat t) ≡ agree s t
unfolding flat agree
flat_agree [] [] h = refl
flat_agree [] (y ∷ t) h = refl
flat_agree (x ∷ s) [] h = refl
flat_agree (x ∷ s) (Break ∷ t) h = no_break t h
flat_agree (Byte b ∷ s) (Byte c ∷ t) h = rw (flat_agree s t (behind c t h))
flat_agree (Break ∷ s) (Byte c ∷ t) h = rw (ten, ne_eqb 10 (upper_of c) (λ e. not_ten c (front c t h) (sym e)))

-- ---- a name breaks the rule as before
letters_of : (s : List Sign) → well_named s ≡ true → letters_or_digits s ≡ true
unfolding well_named
letters_of s e =
    and_left (letters_or_digits s) (begins_with_letter s)
    (and_right (leb (length s) 8) (letters_or_digits s && begins_with_letter s)
    (and_right (leb 1 (length s)) (leb (length s) 8 && (letters_or_digits s && begins_with_letter s)) e))

flat_at : (l : List (List Sign)) (i : ℕ) → name_at (flat_all l) i ≡ flat (name_at l i)
unfolding flat_all flat
flat_at [] i = refl
flat_at (s ∷ l) zero = refl
flat_at (s ∷ l) (suc i) = flat_at l i

any_alike : (n : ℕ) (f g : ℕ → Bool) → ((i : ℕ) → f i ≡ g i) → any_below n f ≡ any_below n g
unfolding any_below
any_alike zero f g h = refl
any_alike (suc n) f g h = rw (any_alike n f g h, h n)

flat_wrong : (l : List (List Sign)) (j : ℕ) → name_wrong (flat_all l) j ≡ name_wrong l j
unfolding name_wrong
flat_wrong l j = rw (flat_at l j, flat_well (name_at l j)) (by (well_named (name_at l j)) refl) where
  by : (x : Bool) → well_named (name_at l j) ≡ x → (not x || any_below j (λ i. agree (name_at (flat_all l) i) (flat (name_at l j)))) ≡
      (not x || any_below j (λ i. agree (name_at l i) (name_at l j)))
  by false e = refl
  by true e =
      any_alike j (λ i. agree (name_at (flat_all l) i) (flat (name_at l j))) (λ i. agree (name_at l i) (name_at l j))
      (λ i. rw (flat_at l i) (flat_agree (name_at l i) (name_at l j) (letters_of (name_at l j) e)))

flat_from : (l : List (List Sign)) (f k : ℕ) → name_fault_from (flat_all l) f k ≡ name_fault_from l f k
unfolding name_fault_from
flat_from l zero k = refl
flat_from l (suc f) k = rw (flat_wrong l k, flat_from l f (k + 1))

flat_count : (l : List (List Sign)) → length (flat_all l) ≡ length l
unfolding flat_all
flat_count [] = refl
flat_count (s ∷ l) = ap suc (flat_count l)

flat_fault : (l : List (List Sign)) → name_fault (flat_all l) ≡ name_fault l
unfolding name_fault
flat_fault l = rw (flat_count l) (flat_from l (length l) 0)

-- SAME: every definition is read or refused as before, with the same number and place
pub same_refusals : (d : List ℕ) (n : ℕ) → outcome_flat d n ≡ sss_outcome d n
unfolding outcome_flat sss_outcome named_flat judge_names
same_refusals d n = ap (cond (ltb 1048576 (length d)) (Refusal 1 0)) (by (survey_of d)) where
  by : (r : Result Survey) → settled_flat d n r ≡ sss_settled d n r
  by (Is s m) = rw (flat_fault (names_of d s.variables))
  by (Not f) = refl

-- BREAK REFUSED: a name with a break in it is not well named
break_letters : (s : List Sign) (k : ℕ) → break_at s k ≡ true → letters_or_digits s ≡ false
unfolding break_at letters_or_digits
break_letters [] k e = none cc
break_letters (Break ∷ s) k e = refl
break_letters (Byte b ∷ s) zero e = none cc
break_letters (Byte b ∷ s) (suc k) e = rw (break_letters s k e, and-false (is_letter b || is_digit b))

pub break_refused : (s : List Sign) (k : ℕ) → break_at s k ≡ true → well_named s ≡ false
unfolding well_named
break_refused s k e = rw (break_letters s k e, and-false (leb (length s) 8), and-false (leb 1 (length s)))

-- a wrong name i is at or behind the first fault
fault_before : (l : List (List Sign)) (f k i : ℕ) → k ≤ i → i < k + f → name_wrong l i ≡ true → name_fault_from l f k ≤ i
unfolding name_fault_from
fault_before l zero k i h g e = absurd (omega arith)
fault_before l (suc f) k i h g e = by (name_wrong l k) refl (λ j. fault_before l f (k + 1) i j (omega arith) e) where
  by : (x : Bool) → name_wrong l k ≡ x → (k + 1 ≤ i → name_fault_from l f (k + 1) ≤ i) → cond x k (name_fault_from l f (k + 1)) ≤ i
  by true q ih = h
  by false q ih =
      ⊎_elim (λ j. let z : true ≡ false = sym e ∙ ap (name_wrong l) (sym j) ∙ q in none cc) (λ j. ih (omega arith)) (eq-or-lt_of_le h)

names_count : (d : List ℕ) (l : List Variable) → length (names_of d l) ≡ length l
unfolding names_of
names_count d [] = refl
names_count d (v ∷ l) = ap suc (names_count d l)

-- UNDER 9: a definition that is read with STANDARD NAMES, and has a break in name i, is refused with 9, at that name or one before it
pub break_nine : (d : List ℕ) (n : ℕ) (s : Survey) (m i k : ℕ) → length d ≤ 1048576 → survey_of d ≡ Is s m → s.heading.standard ≡ true
    → i < length s.variables → break_at (name_at (names_of d s.variables) i) k ≡ true
    → (j : ℕ) × (j ≤ i) × (sss_outcome d n ≡ Refusal 9 (quote_at s.variables j))
unfolding sss_outcome judge_names name_fault name_wrong
break_nine d n s m i k long read standard few e =
    let l = names_of d s.variables in
    let w : name_wrong l i ≡ true = rw (break_refused (name_at l i) k e) in
    let c : length l ≡ length s.variables = names_count d s.variables in
    let j : name_fault l ≤ i = fault_before l (length l) 0 i (omega arith) (omega arith) w in
    (name_fault l, j, rw (le-ltb 1048576 (length d) long, read, standard, lt-ltb (name_fault l) (length s.variables) (omega arith)))
