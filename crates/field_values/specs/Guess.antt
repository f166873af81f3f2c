-- The guess finds the value: of what is left of a number's text the number, of a set's text its members.
use Rattle.std.specs.Prelude.{◌≡◌, refl, Bool, true, false, List, [], ◌∷◌, ◌++◌, ℕ, zero, suc, ◌+◌, ◌-◌, ◌*◌, ◌/◌, ◌^◌, ◌≤◌, ◌<◌}
use Rattle.std.specs.Prelude.{min, eqb, ℤ, pos, negsuc, take, drop}
use Rattle.std.proofs.Common.{sym, ap, subst, ◌∙◌, append-nil, append_assoc, div-one, lt_of_le_of_lt, arith, ne_eqb, eqb-true}
use Rattle.std.proofs.Common.{length-append, length-drop, take-append-drop}
use Rattle.std.proofs.lemmas.Bool.{eqb-false}
use Rattle.std.proofs.Math.ListN.{length}
use Rattle.cells.specs.rule.Cell.{signed_of, number_of}
use Rattle.widths.specs.rule.Width.{size_of}
use Rattle.fields.specs.rule.Number.{padded}
use Rattle.fieldlaws.specs.NumberLaws.{length_padded}
use Rattle.fieldlaws.specs.RisingLaws.{Rising, none, skip, keep}
use Rattle.lines.specs.rule.Text.{numeral}
use Rattle.lines.specs.Appended.{numeral_length}
use Rattle.ascii.specs.Tens.{digits_least}
use Rattle.value_fields.specs.rule.Values.{amount_text, export_number, codes_behind, set_text}
use Rattle.value_fields.proofs.Values.{amount_whole, amount_parts}
use Rattle.field_values.specs.rule.Value.{zeros, Left, whole, cut, unpointed}
use Rattle.field_values.specs.rule.Read.{capped, capped_from, size_guess, number_guess, codes_in, set_guess}
use Rattle.field_values.specs.Left.{length_zeros, same_tail}
use Rattle.field_values.specs.Capped.{Free, no_point, no_semicolon, free_numeral, led_numeral, capped_same, decimal_parts}
use Rattle.field_values.specs.Capped.{decimal_numeral, size_parts, size_whole}

-- ---- a size
pub record Sized (k n : ℕ) (f : List ℕ) : Type 0 where
  pub behind : List ℕ
  pub is : f ≡ numeral (n / 10 ^ k) ++ behind
  pub size : size_guess k f ≡ n

module _ (k n : ℕ) (few : n ≤ 1000000000000000) where
  free : Free 46 (numeral (n / 10 ^ k))
  free = free_numeral 46 no_point (n / 10 ^ k)

  all_digits : capped_from 0 (numeral (n / 10 ^ k) ++ padded k n) ≡ n
  all_digits =
      let e = decimal_parts k n (lt_of_le_of_lt few (omega arith)) in
      capped_same (numeral (n / 10 ^ k) ++ padded k n) 0 (omega (arith, e)) ∙ e

  zeros_none : k ≡ 0 → zeros k ≡ padded k n
  unfolding zeros padded
  zeros_none e = rw e

  -- no decimals
  sized_none : k ≡ 0 → Sized k n (numeral (n / 10 ^ k))
  sized_none e = record {
    behind = [];
    is = sym (append-nil (numeral (n / 10 ^ k)));
    size = size_whole k (numeral (n / 10 ^ k)) free ∙ ap (λ (x : List ℕ). capped_from 0 (numeral (n / 10 ^ k) ++ x)) (zeros_none e)
        ∙ all_digits;
  }

  -- some of the decimals, and zeros for the others
  sized_some : (d : List ℕ) → d ++ zeros (k - length d) ≡ padded k n → Sized k n (numeral (n / 10 ^ k) ++ (46 ∷ d))
  sized_some d e = record {
    behind = 46 ∷ d;
    is = refl;
    size = size_parts k (numeral (n / 10 ^ k)) d free ∙ ap (λ (x : List ℕ). capped_from 0 (numeral (n / 10 ^ k) ++ x)) e ∙ all_digits;
  }

  sized_zeros : padded k n ≡ zeros k → Sized k n (numeral (n / 10 ^ k))
  sized_zeros e = record {
    behind = [];
    is = sym (append-nil (numeral (n / 10 ^ k)));
    size = size_whole k (numeral (n / 10 ^ k)) free ∙ ap (λ (x : List ℕ). capped_from 0 (numeral (n / 10 ^ k) ++ x)) (sym e) ∙ all_digits;
  }

  all_there : padded k n ++ zeros (k - length (padded k n)) ≡ padded k n
  unfolding zeros
  all_there = let e : k - length (padded k n) ≡ 0 = omega (arith, length_padded k n) in rw e (append-nil (padded k n))

  parts : (k ≡ 0 → ⊥) → amount_text k n ≡ numeral (n / 10 ^ k) ++ (46 ∷ padded k n)
  parts h = sym (amount_parts k n h)

  sized_cut : (j : ℕ) (f : List ℕ) → j < k → amount_text k n ≡ f ++ zeros j → Sized k n f
  sized_cut j f h e =
      let a = numeral (n / 10 ^ k) in
      let d = take (k - j) (padded k n) in
      let u = drop (k - j) (padded k n) in
      let m : length u ≡ length (zeros j) = omega (arith, length-drop (k - j) (padded k n), length_padded k n, length_zeros j) in
      let w : (a ++ (46 ∷ d)) ++ u ≡ f ++ zeros j =
      append_assoc a (46 ∷ d) u ∙ ap (λ (x : List ℕ). a ++ (46 ∷ x)) (take-append-drop (k - j) (padded k n))
      ∙ sym (parts (λ q. omega arith)) ∙ e in
      let s = same_tail (a ++ (46 ∷ d)) f u (zeros j) w m in
      let l : length d ≡ k - j = omega (
        arith,
        length-append d u,
        ap length (take-append-drop (k - j) (padded k n)),
        length-drop (k - j) (padded k n),
        length_padded k n,
      ) in
      let z : k - length d ≡ j = omega (arith, l) in
      subst (Sized k n) s.0 (sized_some d (ap (λ (i : ℕ). d ++ zeros i) z ∙ ap (λ (x : List ℕ). d ++ x) (sym s.1)
      ∙ take-append-drop (k - j) (padded k n)))

  sized_unpointed : (f : List ℕ) → 0 < k → amount_text k n ≡ f ++ (46 ∷ zeros k) → Sized k n f
  sized_unpointed f h e =
      let a = numeral (n / 10 ^ k) in
      let m : length (46 ∷ padded k n) ≡ length (46 ∷ zeros k) = omega (arith, length_padded k n, length_zeros k) in
      let s = same_tail a f (46 ∷ padded k n) (46 ∷ zeros k) (sym (parts (λ q. omega arith)) ∙ e) m in
      let z : padded k n ≡ zeros k = cc in
      subst (Sized k n) s.0 (sized_zeros z)

  -- WHAT IS LEFT of a size's text has the size
  pub amount_left : (f : List ℕ) → Left k (amount_text k n) f → Sized k n f
  amount_left f (whole e) = go (eqb k 0) refl
    where
      go : (b : Bool) → eqb k 0 ≡ b → Sized k n f
      go true q = subst (Sized k n) (amount_whole k n (eqb-true k 0 q) ∙ e) (sized_none (eqb-true k 0 q))
      go false q = subst (Sized k n) (sym (parts (eqb-false k 0 q)) ∙ e) (sized_some (padded k n) all_there)
  amount_left f (cut j h e) = sized_cut j f h e
  amount_left f (unpointed h e) = sized_unpointed f h e

-- ---- a number
pub record Begins (b : ℕ) (k : ℕ) (s f : List ℕ) : Type 0 where
  pub rest : List ℕ
  pub is : f ≡ b ∷ rest
  pub left : Left k s rest

no_head : {A : Type 0} (b c : ℕ) {s u : List ℕ} → (b ≡ c → ⊥) → b ∷ s ≡ c ∷ u → A
no_head b c n e = let z : b ≡ c = cc in absurd (n z)

pub no_nil : {A : Type 0} {b : ℕ} {s : List ℕ} → b ∷ s ≡ [] → A
no_nil e = let z : ◌≡◌ {A = ℕ} 0 1 = cc in absurd (omega arith)

left_head : (k b : ℕ) (s f : List ℕ) → (b ≡ 48 → ⊥) → (b ≡ 46 → ⊥) → Left k (b ∷ s) f → Begins b k s f
unfolding zeros
left_head k b s [] p q (whole e) = no_nil e
left_head k b s [] p q (cut zero h e) = no_nil e
left_head k b s [] p q (cut (suc j) h e) = no_head b 48 p e
left_head k b s [] p q (unpointed h e) = no_head b 46 q e
left_head k b s (c ∷ f) p q (whole e) = let z : b ≡ c = cc in let w : s ≡ f = cc in record { rest = f; is = rw z; left = whole w }
left_head k b s (c ∷ f) p q (cut j h e) = let z : b ≡ c = cc in let w : s ≡ f ++ zeros j = cc in
    record { rest = f; is = rw z; left = cut j h w }
left_head k b s (c ∷ f) p q (unpointed h e) = let z : b ≡ c = cc in let w : s ≡ f ++ (46 ∷ zeros k) = cc in
    record { rest = f; is = rw z; left = unpointed h w }

-- a field that is not empty, with its number
pub record Numbered (k : ℕ) (z : ℤ) (f : List ℕ) : Type 0 where
  pub first : ℕ
  pub others : List ℕ
  pub is : f ≡ first ∷ others
  pub guess : number_guess k f ≡ z

up_left : (k n : ℕ) (f : List ℕ) → Sized k n f → Numbered k (pos n) f
unfolding number_guess number_of
up_left k n f s =
    let l = led_numeral (n / 10 ^ k) in
    let e : f ≡ l.first ∷ (l.others ++ s.behind) = s.is ∙ ap (λ (x : List ℕ). x ++ s.behind) l.is in
    record {
      first = l.first;
      others = l.others ++ s.behind;
      is = e;
      guess = ap (number_guess k) e ∙ rw (ne_eqb l.first 45 (λ q. omega (arith, l.low)))
          (ap (λ (x : List ℕ). pos (size_guess k x)) (sym e) ∙ ap pos s.size);
    }

pub number_left : (k : ℕ) (z : ℤ) (f : List ℕ) → size_of z ≤ 999999999999999 → Left k (export_number k z) f → Numbered k z f
unfolding export_number signed_of number_of number_guess
number_left k (pos n) f h l = up_left k n f (amount_left k n (omega arith) f l)
number_left k (negsuc n) f h l =
    let b = left_head k 45 (amount_text k (suc n)) f (λ e. omega arith) (λ e. omega arith) l in
    let s = amount_left k (suc n) (omega arith) b.rest b.left in
    record { first = 45; others = b.rest; is = b.is; guess = ap (number_guess k) b.is ∙ ap (number_of true) s.size }

-- ---- codes
abbrev pub AreCodes : List ℤ → Type 0
AreCodes [] = Unit
AreCodes (pos n ∷ ms) = (n ≤ 9999) × AreCodes ms
AreCodes (negsuc n ∷ ms) = ⊥

pub rising_codes : {c n : ℕ} {ms : List ℤ} → c + n ≤ 10000 → Rising c n ms → AreCodes ms
rising_codes h none = tt
rising_codes h (skip r) = rising_codes (omega arith) r
rising_codes h (keep r) = (omega arith, rising_codes (omega arith) r)

codes_digits : (a u : List ℕ) (n : ℕ) → Free 59 a → codes_in n (a ++ u) ≡ codes_in (capped_from n a) u
unfolding codes_in capped_from
codes_digits [] u n h = refl
codes_digits (b ∷ a) u n h = rw (ne_eqb b 59 h.0) (codes_digits a u (capped (n * 10 + (b - 48))) h.1)

pub code_text : (n : ℕ) → export_number 0 (pos n) ≡ numeral n
unfolding export_number signed_of
code_text n = sym (amount_whole 0 n refl) ∙ ap numeral (div-one n)

code_said : (n : ℕ) → n ≤ 9999 → capped_from 0 (numeral n) ≡ n
code_said n h =
    let e = decimal_numeral n (lt_of_le_of_lt h (omega arith)) in
    capped_same (numeral n) 0 (omega (arith, e)) ∙ e

code_last : (n : ℕ) → n ≤ 9999 → codes_in 0 (numeral n ++ []) ≡ pos n ∷ []
unfolding codes_in
code_last n h = let e : min n 9999 ≡ n = omega arith in
    codes_digits (numeral n) [] 0 (free_numeral 59 no_semicolon n) ∙ rw (code_said n h, e)

code_next : (n : ℕ) (u : List ℕ) → n ≤ 9999 → codes_in 0 (numeral n ++ (59 ∷ u)) ≡ pos n ∷ codes_in 0 u
unfolding codes_in
code_next n u h = let e : min n 9999 ≡ n = omega arith in
    codes_digits (numeral n) (59 ∷ u) 0 (free_numeral 59 no_semicolon n) ∙ rw (code_said n h, e)

codes_back : (n : ℕ) (ms : List ℤ) → n ≤ 9999 → AreCodes ms → codes_in 0 (export_number 0 (pos n) ++ codes_behind ms) ≡ pos n ∷ ms
unfolding codes_behind
codes_back n [] h c = rw (code_text n) (code_last n h)
codes_back n (pos m ∷ ms) h c =
    rw (code_text n) (code_next n (export_number 0 (pos m) ++ codes_behind ms) h)
    ∙ ap (λ (x : List ℤ). pos n ∷ x) (codes_back m ms c.0 c.1)
codes_back n (negsuc m ∷ ms) h c = absurd c

-- THE MEMBERS of a set's text
pub set_back : (ms : List ℤ) → AreCodes ms → set_guess (set_text ms) ≡ ms
unfolding set_text set_guess
set_back [] c = refl
set_back (pos n ∷ ms) c =
    let l = led_numeral n in
    let e : export_number 0 (pos n) ++ codes_behind ms ≡ l.first
    ∷ (l.others ++ codes_behind ms) = ap (λ (x : List ℕ). x ++ codes_behind ms) (code_text n ∙ l.is) in
    ap set_guess e ∙ rw (ne_eqb l.first 110 (λ q. omega (arith, l.high))) (ap (codes_in 0) (sym e) ∙ codes_back n ms c.0 c.1)
set_back (negsuc n ∷ ms) c = absurd c

-- it is not empty
pub record Filled (s : List ℕ) : Type 0 where
  pub first : ℕ
  pub others : List ℕ
  pub is : s ≡ first ∷ others

pub set_filled : (ms : List ℤ) → AreCodes ms → Filled (set_text ms)
unfolding set_text
set_filled [] c = record { first = 110; others = 111 ∷ 110 ∷ 101 ∷ []; is = refl }
set_filled (pos n ∷ ms) c =
    let l = led_numeral n in
    record { first = l.first; others = l.others ++ codes_behind ms; is = ap (λ (x : List ℕ). x ++ codes_behind ms) (code_text n ∙ l.is) }
set_filled (negsuc n ∷ ms) c = absurd c

-- how long it is
code_long : (n : ℕ) → n ≤ 9999 → length (export_number 0 (pos n)) ≤ 4
code_long n h = rw (code_text n) (omega (arith, numeral_length n, digits_least n 4 (omega arith) (omega arith)))

behind_long : (ms : List ℤ) → AreCodes ms → length (codes_behind ms) ≤ 5 * length ms
unfolding codes_behind
behind_long [] c = omega arith
behind_long (pos n ∷ ms) c = omega (
  arith,
  code_long n c.0,
  length-append (export_number 0 (pos n)) (codes_behind ms),
  behind_long ms c.1,
)
behind_long (negsuc n ∷ ms) c = absurd c

pub set_long : (ms : List ℤ) → AreCodes ms → length (set_text ms) ≤ 5 * length ms + 4
unfolding set_text
set_long [] c = omega arith
set_long (pos n ∷ ms) c = omega (arith, code_long n c.0, length-append (export_number 0 (pos n)) (codes_behind ms), behind_long ms c.1)
set_long (negsuc n ∷ ms) c = absurd c

pub rising_few : {c n : ℕ} {ms : List ℤ} → Rising c n ms → length ms ≤ n
rising_few none = omega arith
rising_few (skip r) = let h = rising_few r in omega arith
rising_few (keep r) = let h = rising_few r in omega arith
