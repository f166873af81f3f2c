-- Digits compared one by one, zeros in front left out, are compared by the numbers that they say.
use mathlib.Core.Path.{◌≡◌, refl, sym, ◌∙◌, ap}
use mathlib.Core.Bool.{Bool, true, false, cond, ◌&&◌, ◌||◌}
use mathlib.Core.List.{List, [], ◌∷◌}
use Prim.Native.Nat.{ℕ, ◌+◌, ◌*◌, ◌-◌, ◌≤◌, ◌<◌}
use native.Mathlib.Omega.{arith}
use lib.Dec.{ltb, leb, eqb}
use lib.ListN.{length}
use borrow.Author.Tests.{lt-ltb, le-ltb, ltb-true, ltb-false, eqb-true, eqb-false, eq-eqb, ne_eqb, le-leb, lt-leb, leb-true}
use Rattle.below.specs.Below.{holds_not}
use Rattle.ascii.specs.rule.Class.{class_of, within}
use Rattle.scan.specs.rule.Text.{Text, stop, sign, text}
use Rattle.scan.specs.declared.Figure.{Figure}
use Rattle.scan.specs.declared.Figure.TheVariants.{One, Nothing}
use Rattle.scan.specs.declared.Order.{Order}
use Rattle.scan.specs.declared.Order.TheVariants.{Less, Same, More}
use Rattle.scan.specs.rule.Number.{is_digit, run_of, run_bytes, decimal_of}
use Rattle.scan.specs.Order.{digits_to, value_of}
use Rattle.scan.specs.Order.{figure_of, stripped, order_then, is_less, less_of}
use Rattle.scan.proofs.Texts.{From, at_stop, at_sign, from_text}

-- a list of digits
pub data All : List ℕ → Type 0 where
  none : All []
  one : {b : ℕ} {s : List ℕ} → 48 ≤ b → b ≤ 57 → All s → All (b ∷ s)

class_two : (x y w l q br an : Bool) → eqb (cond x 0 (cond y 1 (cond w 2 (cond l 3 (cond q 4 (cond br 5 (cond an 6 7))))))) 2 ≡ true → w
    ≡ true
class_two true y w l q br an e = holds_not e refl
class_two false true w l q br an e = holds_not e refl
class_two false false true l q br an e = refl
class_two false false false true q br an e = holds_not e refl
class_two false false false false true br an e = holds_not e refl
class_two false false false false false true an e = holds_not e refl
class_two false false false false false false true e = holds_not e refl
class_two false false false false false false false e = holds_not e refl

both : (x y : ℕ) (b : ℕ) → within x y b ≡ true → (x ≤ b) × (b ≤ y)
both x y b = by (leb x b) (leb b y) refl refl where
  by : (p q : Bool) → leb x b ≡ p → leb b y ≡ q → (p && q) ≡ true → (x ≤ b) × (b ≤ y)
  by true true f g e = (leb-true x b f, leb-true b y g)
  by true false f g e = holds_not e refl
  by false q f g e = holds_not e refl

pub digit_bounds : (b : ℕ) → is_digit b ≡ true → (48 ≤ b) × (b ≤ 57)
unfolding is_digit class_of
digit_bounds b e =
    both 48 57 b (class_two (ltb b 32) (eqb b 32) (within 48 57 b) (within 65 90 b || within 97 122 b) (eqb b 34) (eqb b 123 || eqb b 125)
    (eqb b 60 || eqb b 62) e)

-- the digits of a text are digits
pub all_digits : (end : ℕ) (t : Text) → All (digits_to end t)
unfolding digits_to
all_digits end (stop p) = none
all_digits end (sign p b t) = by (leb end p) (is_digit b) refl (all_digits end t) where
  by : (x y : Bool) → is_digit b ≡ y → All (digits_to end t) → All (cond x [] (cond y (b ∷ digits_to end t) (digits_to end t)))
  by true y f a = none
  by false true f a = let h = digit_bounds b f in one h.0 h.1 a
  by false false f a = a

-- zeros in front say nothing
pub strip_says : (s : List ℕ) → decimal_of 0 (stripped s) ≡ decimal_of 0 s
unfolding stripped decimal_of
strip_says [] = refl
strip_says (b ∷ s) = by (eqb b 48) refl (strip_says s) where
  by : (q : Bool) → eqb b 48 ≡ q → decimal_of 0 (stripped s) ≡ decimal_of 0 s → decimal_of 0 (cond q (stripped s) (b ∷ s))
      ≡ decimal_of (0 * 10 + (b - 48)) s
  by true e ih = rw (eqb-true b 48 e) ih
  by false e ih = refl

-- no zero in front
pub data Leads : List ℕ → Type 0 where
  empty : Leads []
  first : {b : ℕ} {s : List ℕ} → (b ≡ 48 → ⊥) → Leads (b ∷ s)

strip_leads : (s : List ℕ) → Leads (stripped s)
unfolding stripped
strip_leads [] = empty
strip_leads (b ∷ s) = by (eqb b 48) refl (strip_leads s) where
  by : (q : Bool) → eqb b 48 ≡ q → Leads (stripped s) → Leads (cond q (stripped s) (b ∷ s))
  by true e l = l
  by false e l = first (eqb-false b 48 e)

strip_all : {s : List ℕ} → All s → All (stripped s)
unfolding stripped
strip_all none = none
strip_all (one {b = b} {s = s} l h a) = by (eqb b 48) (strip_all a) where
  by : (q : Bool) → All (stripped s) → All (cond q (stripped s) (b ∷ s))
  by true r = r
  by false r = one l h a

decimal_grows : (s : List ℕ) (n : ℕ) → n ≤ decimal_of n s
unfolding decimal_of
decimal_grows [] n = omega arith
decimal_grows (b ∷ s) n = let h = decimal_grows s (n * 10 + (b - 48)) in omega arith

-- how two numbers compare
data Compared (v w : ℕ) : Order → Type 0 where
  is_less_lem : v < w → Compared v w Less
  is_same : v ≡ w → Compared v w Same
  is_more : w < v → Compared v w More

compared_then : {v w : ℕ} {o : Order} (x y : ℕ) → 48 ≤ x → x ≤ 57 → 48 ≤ y → y ≤ 57 → Compared v w o
    → Compared (v * 10 + (x - 48)) (w * 10 + (y - 48)) (order_then o x y)
unfolding order_then
compared_then {v} {w} x y a b e f (is_less_lem h) = let g : v * 10 + (x - 48) < w * 10 + (y - 48) = omega arith in is_less_lem g
compared_then {v} {w} x y a b e f (is_more h) = let g : w * 10 + (y - 48) < v * 10 + (x - 48) = omega arith in is_more g
compared_then {v} {w} x y a b e f (is_same h) = by (ltb x y) (ltb y x) refl refl where
  by : (p q : Bool) → ltb x y ≡ p → ltb y x ≡ q → Compared (v * 10 + (x - 48)) (w * 10 + (y - 48)) (cond p Less (cond q More Same))
  by true q i j = let k = ltb-true x y i in let g : v * 10 + (x - 48) < w * 10 + (y - 48) = omega arith in is_less_lem g
  by false true i j = let k = ltb-true y x j in let g : w * 10 + (y - 48) < v * 10 + (x - 48) = omega arith in is_more g
  by false false i j = let k = ltb-false x y i in let l = ltb-false y x j in let g : v * 10 + (x - 48) ≡ w * 10 + (y - 48) = omega arith in
      is_same g

over : {v w : ℕ} {o : Order} → Compared v w o → is_less o ≡ ltb v w
unfolding is_less
over {v} {w} (is_less_lem h) = sym (lt-ltb v w h)
over {v} {w} (is_same h) = sym (le-ltb v w (omega arith))
over {v} {w} (is_more h) = sym (le-ltb v w (omega arith))

-- numbers of as many digits, the first of them no zero: each is below ten times the other, which stays so digit by digit
compared : {s t : List ℕ} {v w : ℕ} {o : Order} → All s → All t → v < 10 * w → w < 10 * v → Compared v w o → less_of o s t
    ≡ ltb (decimal_of v s) (decimal_of w t)
unfolding less_of decimal_of
compared none none h g c = over c
compared {v = v} {w = w} none (one {b = y} {s = t} l u a) h g c =
    let k = decimal_grows t (w * 10 + (y - 48)) in sym (lt-ltb v (decimal_of (w * 10 + (y - 48)) t) (omega arith))
compared {v = v} {w = w} (one {b = x} {s = s} l u a) none h g c =
    let k = decimal_grows s (v * 10 + (x - 48)) in sym (le-ltb (decimal_of (v * 10 + (x - 48)) s) w (omega arith))
compared {v = v} {w = w} (one {b = x} l u a) (one {b = y} m n b) h g c =
    compared a b (omega arith) (omega arith) (compared_then x y l u m n c)

-- from the start
both_lead : {s t : List ℕ} → All s → All t → Leads s → Leads t → less_of Same s t ≡ ltb (decimal_of 0 s) (decimal_of 0 t)
unfolding less_of decimal_of
both_lead none none p q = over {v = 0} {w = 0} (is_same refl)
both_lead none (one {b = y} {s = t} l u a) p (first f) =
    let k = decimal_grows t (0 * 10 + (y - 48)) in
    let n : 48 < y = by y l f in
    sym (lt-ltb 0 (decimal_of (0 * 10 + (y - 48)) t) (omega arith))
  where
    by : (y : ℕ) → 48 ≤ y → (y ≡ 48 → ⊥) → 48 < y
    by y l f = omega arith
both_lead (one {b = x} {s = s} l u a) none (first f) q = sym (le-ltb (decimal_of (0 * 10 + (x - 48)) s) 0 (omega arith))
both_lead (one {b = x} l u a) (one {b = y} m n b) (first f) (first g) =
    compared a b (omega arith) (omega arith) (compared_then {v = 0} {w = 0} x y l u m n (is_same refl))

-- LESS: the numbers that two rows of digits say, whatever stands in front
pub less_exactly : (d : List ℕ) (a ae b be : ℕ) → less_of Same (stripped (digits_to ae (text d a))) (stripped (digits_to be (text d b)))
    ≡ ltb (value_of d a ae) (value_of d b be)
unfolding value_of
less_exactly d a ae b be =
    let s = digits_to ae (text d a) in
    let t = digits_to be (text d b) in
    both_lead (strip_all (all_digits ae (text d a))) (strip_all (all_digits be (text d b))) (strip_leads s) (strip_leads t)
    ∙ rw (strip_says s, strip_says t)

-- ---- one digit
module _ (d : List ℕ) (end : ℕ) where
  -- what a digit found at `at`, with n after it, says of the digits that were left
  pub record Figured (at b n : ℕ) : Type 0 where
    pub split : digits_to end (text d at) ≡ b ∷ digits_to end (text d n)
    pub ahead : at < n
    pub within : n ≤ length d

  figured : {at : ℕ} {t : Text} → From d at t → (b n : ℕ) → figure_of end t ≡ One b n → (digits_to end t ≡ b ∷ digits_to end (text d n))
      × (at < n) × (n ≤ length d)
  unfolding figure_of digits_to
  figured at_stop b n e = let z : ◌≡◌ {A = ℕ} 0 1 = cc in absurd (omega arith)
  figured {at} (at_sign {p = p} {b = c} {u = u} h w q r) b n e = by (leb end p) (is_digit c) (figured r b n) e where
    by : (x y : Bool) → (figure_of end u ≡ One b n → (digits_to end u ≡ b ∷ digits_to end (text d n)) × (p + 1 < n) × (n ≤ length d))
        → cond x Nothing (cond y (One c (p + 1)) (figure_of end u)) ≡ One b n
        → (cond x [] (cond y (c ∷ digits_to end u) (digits_to end u)) ≡ b ∷ digits_to end (text d n)) × (at < n) × (n ≤ length d)
    by true y ih i = let z : ◌≡◌ {A = ℕ} 0 1 = cc in absurd (omega arith)
    by false true ih i = let j : c ≡ b = cc in let k : p + 1 ≡ n = cc in (rw (j, q, k), omega arith, omega arith)
    by false false ih i = let g = ih i in (g.0, omega arith, g.2)

  pub figure_one : {at b n : ℕ} {f : Figure} → f ≡ figure_of end (text d at) → f ≡ One b n → Figured at b n
  figure_one {at} {b} {n} e q = let g = figured (from_text d at) b n (sym e ∙ q) in record { split = g.0; ahead = g.1; within = g.2 }

figure_empty : (end : ℕ) (t : Text) → figure_of end t ≡ Nothing → digits_to end t ≡ []
unfolding figure_of digits_to
figure_empty end (stop p) e = refl
figure_empty end (sign p b t) e = by (leb end p) (is_digit b) (figure_empty end t) e where
  by : (x y : Bool) → (figure_of end t ≡ Nothing → digits_to end t ≡ []) → cond x Nothing (cond y (One b (p + 1)) (figure_of end t))
      ≡ Nothing
      → cond x [] (cond y (b ∷ digits_to end t) (digits_to end t)) ≡ []
  by true y ih i = refl
  by false true ih i = let z : ◌≡◌ {A = ℕ} 0 1 = cc in absurd (omega arith)
  by false false ih i = ih i

pub figure_none : (d : List ℕ) (end at : ℕ) {f : Figure} → f ≡ figure_of end (text d at) → f ≡ Nothing → digits_to end (text d at) ≡ []
figure_none d end at e q = figure_empty end (text d at) (sym e ∙ q)

module _ (end : ℕ) {t : Text} where
  pub figure_past : {p b : ℕ} {u : Text} → t ≡ sign p b u → end ≤ p → figure_of end t ≡ Nothing
  unfolding figure_of
  figure_past {p = p} e h = rw (e, le-leb end p h)

  pub figure_here : {p b : ℕ} {u : Text} → t ≡ sign p b u → p < end → is_digit b ≡ true → figure_of end t ≡ One b (p + 1)
  unfolding figure_of
  figure_here {p = p} e h q = rw (e, lt-leb end p h, q)

  pub figure_on : {p b : ℕ} {u : Text} → t ≡ sign p b u → p < end → is_digit b ≡ false → figure_of end t ≡ figure_of end u
  unfolding figure_of
  figure_on {p = p} e h q = rw (e, lt-leb end p h, q)

  pub figure_end : {p : ℕ} → t ≡ stop p → figure_of end t ≡ Nothing
  unfolding figure_of
  figure_end e = rw e

-- ---- steps of the two loops
pub strip_zero : {l s : List ℕ} {b : ℕ} → l ≡ b ∷ s → b ≡ 48 → stripped l ≡ stripped s
unfolding stripped
strip_zero {b = b} e q = rw (e, eq-eqb b 48 q)

pub strip_first : {l s : List ℕ} {b : ℕ} → l ≡ b ∷ s → (b ≡ 48 → ⊥) → stripped l ≡ l
unfolding stripped
strip_first {b = b} e q = rw (e, ne_eqb b 48 q)

pub strip_none : {l : List ℕ} → l ≡ [] → stripped l ≡ l
unfolding stripped
strip_none e = rw e

module _ {k l : List ℕ} where
  pub less_both : (o : Order) {r : Order} {x y : ℕ} {s t : List ℕ} → k ≡ x ∷ s → l ≡ y ∷ t → r ≡ order_then o x y → less_of o k l
      ≡ less_of r s t
  unfolding less_of
  less_both o e f q = rw (e, f, q)

  pub less_longer : (o : Order) {x : ℕ} {s : List ℕ} → k ≡ x ∷ s → l ≡ [] → less_of o k l ≡ false
  unfolding less_of
  less_longer o e f = rw (e, f)

  pub less_shorter : (o : Order) {y : ℕ} {t : List ℕ} → k ≡ [] → l ≡ y ∷ t → less_of o k l ≡ true
  unfolding less_of
  less_shorter o e f = rw (e, f)

  pub less_even : (o : Order) → k ≡ [] → l ≡ [] → less_of o k l ≡ is_less o
  unfolding less_of
  less_even o e f = rw (e, f)

-- ---- a run of digits is the digits up to its end
pub run_ahead : (d : List ℕ) (f : ℕ → Bool) {n : ℕ} {t : Text} → From d n t → n ≤ run_of f n t
unfolding run_of
run_ahead d f at_stop = omega arith
run_ahead d f {n} (at_sign {p = p} {b = b} {u = u} h w e r) = by (f b) (run_ahead d f r) where
  by : (q : Bool) → p + 1 ≤ run_of f (p + 1) u → n ≤ cond q (run_of f (p + 1) u) n
  by true i = omega arith
  by false i = omega arith

run_digits : (d : List ℕ) {n : ℕ} {t : Text} → From d n t → digits_to (run_of is_digit n t) t ≡ run_bytes is_digit t
unfolding run_of digits_to run_bytes
run_digits d at_stop = refl
run_digits d {n} (at_sign {p = p} {b = b} {u = u} h w e r) = by (is_digit b) refl (run_ahead d is_digit r) (run_digits d r) where
  by : (q : Bool) → is_digit b ≡ q → p + 1 ≤ run_of is_digit (p + 1) u → digits_to (run_of is_digit (p + 1) u) u ≡ run_bytes is_digit u
      → cond (leb (cond q (run_of is_digit (p + 1) u) n) p) []
      (cond (is_digit b) (b ∷ digits_to (cond q (run_of is_digit (p + 1) u) n) u) (digits_to (cond q (run_of is_digit (p + 1) u) n) u))
      ≡ cond q (b ∷ run_bytes is_digit u) []
  by true f i g = rw (lt-leb (run_of is_digit (p + 1) u) p (omega arith), f, g)
  by false f i g = rw (le-leb n p h)

-- the number that a run of digits says is the number that stands between its places
pub run_value : (d : List ℕ) (at : ℕ) → value_of d at (run_of is_digit at (text d at)) ≡ decimal_of 0 (run_bytes is_digit (text d at))
unfolding value_of
run_value d at = ap (decimal_of 0) (run_digits d (from_text d at))
