-- Numbers over stretches: what a stretch of digits says, and which of two says less.
use mathlib.Core.Path.{◌≡◌, refl, sym, ap, ◌∙◌}
use mathlib.Core.Logic.{⊎_elim}
use mathlib.Core.Bool.{Bool, true, false, cond, ◌&&◌}
use mathlib.Core.List.{List, [], ◌∷◌}
use Prim.Native.Nat.{ℕ, ◌+◌, ◌-◌, ◌<◌}
use native.Mathlib.Omega.{arith}
use lib.Dec.{ltb}
use lib.ListN.{length, take, drop}
use borrow.Author.Tests.{ne_eqb, ltb-true, le-ltb}
use Rattle.std.proofs.Common.{Option, Some, None}
use Rattle.below.specs.Below.{holds_not}
use Rattle.markup.specs.rule.Bytes.{is_digit}
use Rattle.scan.specs.rule.Number.{decimal_of}
use Rattle.scan.specs.Number.{capped}
use Rattle.spans.specs.rule.Heard.{Heard, All, Ill, heard, nothing}
use Rattle.spans.specs.rule.Says.{each_char, of_class, count_after}
use Rattle.spans.specs.Figures.{figures_after, figures_of}
use Rattle.spans.proofs.Hearing.{heard_exactly}
use Rattle.forms.specs.rule.Form.{fits_of}
use Rattle.tags.specs.rule.Tag.{stretch_fits}
use Rattle.tokens.specs.declared.Figures.{Figures}
use Rattle.amounts.specs.rule.Said.{digits_in, true_in}
use Rattle.amounts.proofs.Hears.{digit_yes}
use Rattle.bridge.specs.Statements.{figures}
use Rattle.xml_reading.specs.rule.Element.{said_in, chars_of, figure_of}
use Rattle.elements.specs.Code.{Written}

class_digits : (cs : List ℕ) → each_char (of_class 1) cs ≡ each_char is_digit cs
unfolding each_char of_class
class_digits [] = refl
class_digits (c ∷ cs) = ap (λ (q : Bool). is_digit c && q) (class_digits cs)

-- a stretch of digits: what is heard, and that all are digits
record Digits (h : Heard) : Type 0 where
  pub all : h ≡ All (said_in h)
  pub each : each_char is_digit (said_in h) ≡ true
  pub some : 0 < length (said_in h)

digits_of : (h : Heard) → fits_of 1 h ≡ true → Digits h
unfolding fits_of count_after
digits_of (All cs) q = by (each_char (of_class 1) cs) refl q where
  by : (p : Bool) → each_char (of_class 1) cs ≡ p → ltb 0 (cond p (0 + length cs) 0) ≡ true → Digits (All cs)
  by true e q = let h = ltb-true 0 (0 + length cs) q in record { all = refl; each = sym (class_digits cs) ∙ e; some = omega arith }
  by false e q = holds_not q (le-ltb 0 0 (omega arith))
digits_of Ill q = holds_not q (le-ltb 0 0 (omega arith))

abbrev stretch : List ℕ → ℕ → ℕ → List ℕ
stretch d v e = take (e - v) (drop v d)

fits_digits : (d : List ℕ) (v e : ℕ) → stretch_fits 1 d v e ≡ true → Digits (heard (stretch d v e) 0)
unfolding stretch_fits
fits_digits d v e q = digits_of (heard (stretch d v e) 0) q

-- ---- the number
abbrev pub to_figures : ℕ → ℕ → Option (ℕ × ℕ) → Figures
to_figures v e (Some (size, count)) = record { size = size; count = count; place = v; next = e }
to_figures v e None = record { size = 0; count = 0; place = v; next = e }

number_of : (v e : ℕ) (h : Heard) → Digits h
    → to_figures v e (figures_of h) ≡ record { size = capped (decimal_of 0 (said_in h)); count = length (said_in h); place = v; next = e }
unfolding figures_after
number_of v e (All cs) t =
    let s = t.some in
    let z : 0 + length cs ≡ length cs = omega arith in
    rw (t.each, z, ne_eqb (length cs) 0 (λ o. omega arith))
number_of v e Ill t = let i = t.some in absurd (omega arith)

heard_nothing : heard [] 0 ≡ All []
heard_nothing = (heard_exactly [] []).1 nothing

take_nothing : (d : List ℕ) (v e : ℕ) → v ≡ e → stretch d v e ≡ []
take_nothing d v e h = let z : e - v ≡ 0 = omega arith in rw z

pub figure_told : (d : List ℕ) (v e : ℕ) → Written d v e → to_figures v e (figures_of (heard (stretch d v e) 0))
    ≡ figures (figure_of d v e) e
unfolding figure_of chars_of figures_after decimal_of each_char
figure_told d v e = ⊎_elim (λ q. number_of v e (heard (stretch d v e) 0) (fits_digits d v e q))
    (λ q. rw (take_nothing d v e q, heard_nothing))

-- ---- which says less
digits_all : (cs : List ℕ) → each_char is_digit cs ≡ true → digits_in cs ≡ cs
unfolding each_char digits_in
digits_all [] e = refl
digits_all (c ∷ cs) e = by (is_digit c) refl e (digits_all cs) where
  by : (q : Bool) → is_digit c ≡ q → (q && each_char is_digit cs) ≡ true → (each_char is_digit cs ≡ true → digits_in cs ≡ cs)
      → digits_in (c ∷ cs)
      ≡ c
      ∷ cs
  by true f e ih = rw (digit_yes c f) (ap (λ (s : List ℕ). c ∷ s) (ih e))
  by false f e ih = let z : ◌≡◌ {A = ℕ} 0 1 = cc in absurd (omega arith)

pub fits_heard : (d : List ℕ) (v e : ℕ) → stretch_fits 1 d v e ≡ true → heard (stretch d v e) 0 ≡ All (chars_of d v e)
unfolding chars_of
fits_heard d v e q = (fits_digits d v e q).all

pub true_figure : (d : List ℕ) (v e : ℕ) → stretch_fits 1 d v e ≡ true → true_in (chars_of d v e) ≡ (figure_of d v e).value
unfolding chars_of true_in figure_of
true_figure d v e q = ap (decimal_of 0) (digits_all (chars_of d v e) (fits_digits d v e q).each)
