-- A stretch of the form of a number says digits, one or more; four of them say less than 10,000.
use Rattle.std.specs.Prelude.{Ok}
use mathlib.Core.Path.{◌≡◌, refl, ◌∙◌, sym, ap}
use mathlib.Core.Bool.{Bool, true, false, cond}
use mathlib.Core.List.{List, [], ◌∷◌}
use Prim.Native.Nat.{ℕ, zero, suc, ◌+◌, ◌*◌, ◌-◌, ◌≤◌, ◌<◌}
use native.Mathlib.Omega.{arith}
use lib.Dec.{ltb, leb}
use lib.ListN.{length, take, drop}
use borrow.Author.Tests.{ne_eqb, ltb-true, leb-true, le-ltb}
use Rattle.std.proofs.Common.{Option, Some, None}
use Rattle.below.specs.Below.{holds_not, and_left, and_right}
use Rattle.markup.specs.rule.Bytes.{is_digit}
use Rattle.scan.specs.rule.Number.{decimal_of}
use Rattle.scan.specs.Number.{capped}
use Rattle.spans.specs.rule.Heard.{Heard, All, Ill, heard}
use Rattle.spans.specs.rule.Says.{each_char, of_class, count_after}
use Rattle.spans.specs.Figures.{figures_after, figures_of}
use Rattle.forms.specs.rule.Form.{fits_of}
use Rattle.tags.specs.rule.Tag.{stretch_fits}
use Rattle.reading.specs.rule.Result.{Is}
use Rattle.bridge.specs.Tokens.{to_number}
use Rattle.xml_reading.specs.rule.Element.{said_in, chars_of, figure_of}

pub record Digits (h : Heard) : Type 0 where
  pub all : h ≡ All (said_in h)
  pub each : each_char is_digit (said_in h) ≡ true
  pub some : 0 < length (said_in h)

digits_in : (h : Heard) → fits_of 1 h ≡ true → Digits h
unfolding fits_of count_after of_class
digits_in (All cs) q = by (each_char is_digit cs) refl q where
  by : (x : Bool) → each_char is_digit cs ≡ x → ltb 0 (cond x (0 + length cs) 0) ≡ true → Digits (All cs)
  by true e q = let h = ltb-true 0 (0 + length cs) q in record { all = refl; each = e; some = omega arith }
  by false e q = holds_not q (le-ltb 0 0 (omega arith))
digits_in Ill q = holds_not q (le-ltb 0 0 (omega arith))

-- ---- how much they say
tens : ℕ → ℕ → ℕ
tens p zero = p
tens p (suc j) = tens (p * 10) j

tens_grow : (j p : ℕ) → p ≤ tens p j
unfolding tens
tens_grow zero p = omega arith
tens_grow (suc j) p = let h = tens_grow j (p * 10) in omega arith

digit_low : (c : ℕ) → is_digit c ≡ true → c ≤ 57
unfolding is_digit
digit_low c e = leb-true c 57 (and_right (leb 48 c) (leb c 57) e)

below : (cs : List ℕ) (j v p : ℕ) → v < p → length cs ≤ j → each_char is_digit cs ≡ true → decimal_of v cs < tens p j
unfolding decimal_of tens each_char
below [] j v p h l e = let g = tens_grow j p in omega arith
below (c ∷ cs) zero v p h l e = absurd (omega arith)
below (c ∷ cs) (suc j) v p h l e =
    let g = digit_low c (and_left (is_digit c) (each_char is_digit cs) e) in
    below cs j (v * 10 + (c - 48)) (p * 10) (omega arith) (omega arith) (and_right (is_digit c) (each_char is_digit cs) e)

digits_few : (cs : List ℕ) → each_char is_digit cs ≡ true → length cs ≤ 4 → decimal_of 0 cs < 10000
unfolding tens
digits_few cs e h = below cs 4 0 1 (omega arith) h e

module _ (d : List ℕ) (v e : ℕ) (fits : stretch_fits 1 d v e ≡ true) where
  digits : Digits (heard (take (e - v) (drop v d)) 0)
  unfolding stretch_fits
  digits = digits_in (heard (take (e - v) (drop v d)) 0) fits

  pub few_digits : (figure_of d v e).digits ≤ 4 → (figure_of d v e).value < 10000
  unfolding figure_of chars_of
  few_digits h = digits_few (said_in (heard (take (e - v) (drop v d)) 0)) digits.each h

  figures_are : figures_of (heard (take (e - v) (drop v d)) 0) ≡ Some (capped (decimal_of 0 (chars_of d v e)), length (chars_of d v e))
  unfolding figures_after chars_of
  figures_are = ap figures_of digits.all ∙ by (said_in (heard (take (e - v) (drop v d)) 0)) digits.each digits.some where
    by : (cs : List ℕ) → each_char is_digit cs ≡ true → 0 < length cs → figures_of (All cs) ≡ Some (capped (decimal_of 0 cs), length cs)
    by cs g h = let z : 0 + length cs ≡ length cs = omega arith in rw (g, z, ne_eqb (length cs) 0 (λ o. omega arith))

  module _ (next : ℕ) (r : Option (ℕ × ℕ)) (said : r ≡ figures_of (heard (take (e - v) (drop v d)) 0)) where
    pub figure_good : (size count : ℕ) → r ≡ Some (size, count)
        → Ok (record { size = size; count = count; place = v; next = next }) ≡ to_number (Is (figure_of d v e) next)
    unfolding figure_of
    figure_good size count q =
        let t = sym q ∙ said ∙ figures_are in
        let p : ◌≡◌ {A = ℕ × ℕ} (size, count) (capped (decimal_of 0 (chars_of d v e)), length (chars_of d v e)) = cc in
        let a : size ≡ capped (decimal_of 0 (chars_of d v e)) = ap (λ (k : ℕ × ℕ). k.0) p in
        let b : count ≡ length (chars_of d v e) = ap (λ (k : ℕ × ℕ). k.1) p in
        rw (a, b)

    pub figure_wrong : {A : Type 0} → r ≡ None → A
    figure_wrong q =
        let t = sym q ∙ said ∙ figures_are in
        let z : ◌≡◌ {A = ℕ} 0 1 = cc in
        absurd (omega arith)
