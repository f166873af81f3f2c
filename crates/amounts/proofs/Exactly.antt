-- A value, in words: a minus or none, digits, a point or none, digits behind it, one digit at least in all.
use mathlib.Core.Path.{◌≡◌, refl, sym, ap, ◌∙◌}
use mathlib.Core.Logic.{◌↔◌}
use mathlib.Core.Bool.{Bool, true, false, cond, ◌&&◌}
use mathlib.Core.List.{List, [], ◌∷◌, ◌++◌, append-nil}
use Prim.Native.Nat.{ℕ, ◌<◌}
use native.Mathlib.Omega.{arith}
use lib.Dec.{ltb, eqb}
use lib.ListN.{length}
use borrow.Author.Tests.{eqb-true, ne_eqb, ltb-true, lt-ltb}
use Rattle.below.specs.Below.{and_left, and_right, holds_not}
use Rattle.ascii.specs.rule.Class.{class_of}
use Rattle.scan.specs.rule.Number.{is_digit, decimal_of}
use Rattle.markup.specs.rule.Grammar.{Each, no_more, each}
use Rattle.survey.specs.rule.Survey.{Amount}
use Rattle.survey.specs.rule.Width.{bare}
use Rattle.reading.specs.rule.Token.{leading, after_point, begins, without, amount_read}
use Rattle.amounts.specs.rule.Said.{digits_in, true_in}
use Rattle.amounts.specs.Filled.{filled}

-- 45 is the minus
abbrev pub perhaps : Bool → List ℕ
perhaps true = 45 ∷ []
perhaps false = []

-- what stands behind the whole part: nothing, or a point (46) and digits
pub data Behind : Bool → List ℕ → List ℕ → Type 0 where
  nothing : Behind false [] []
  point : {ds : List ℕ} → Each is_digit ds → Behind true ds (46 ∷ ds)

-- the characters cs are a value in form, and a is what they say
pub record Spelt (place next : ℕ) (cs : List ℕ) (a : Amount) : Type 0 where
  pub minus : Bool
  pub whole : List ℕ
  pub dotted : Bool
  pub decimals : List ℕ
  pub rest : List ℕ
  pub run : cs ≡ perhaps minus ++ (whole ++ rest)
  pub wholes : Each is_digit whole
  pub fraction : Behind dotted decimals rest
  pub some : 0 < length (whole ++ decimals)
  pub says : a ≡ record {
    place = place;
    end = next;
    minus = minus;
    whole = length whole;
    point = dotted;
    decimals = length decimals;
    size = decimal_of 0 (whole ++ decimals);
    formed = true;
  }

-- ---- runs of digits
parts : (s : List ℕ) → s ≡ leading s ++ after_point s
unfolding leading after_point
parts [] = refl
parts (b ∷ s) = by (is_digit b) (parts s) where
  by : (x : Bool) → s ≡ leading s ++ after_point s → b ∷ s ≡ cond x (b ∷ leading s) [] ++ cond x (after_point s) (b ∷ s)
  by true e = ap (λ (l : List ℕ). b ∷ l) e
  by false e = refl

leading_each : (s : List ℕ) → Each is_digit (leading s)
unfolding leading
leading_each [] = no_more
leading_each (b ∷ s) = by (is_digit b) refl (leading_each s) where
  by : (x : Bool) → is_digit b ≡ x → Each is_digit (leading s) → Each is_digit (cond x (b ∷ leading s) [])
  by true e d = each e d
  by false e d = no_more

-- no digit stands first
data Stops : List ℕ → Type 0 where
  ends : Stops []
  other : {b : ℕ} {s : List ℕ} → is_digit b ≡ false → Stops (b ∷ s)

leads : {w t : List ℕ} → Each is_digit w → Stops t → (leading (w ++ t) ≡ w) × (after_point (w ++ t) ≡ t)
unfolding leading after_point
leads no_more ends = (refl, refl)
leads no_more (other e) = rw e (refl, refl)
leads {t = t} (each {b} {s} e d) o = let i = leads {t = t} d o in rw e (ap (λ (l : List ℕ). b ∷ l) i.0, i.1)

behind_stops : (s : List ℕ) → Stops (after_point s)
unfolding after_point
behind_stops [] = ends
behind_stops (b ∷ s) = by (is_digit b) refl (behind_stops s) where
  by : (x : Bool) → is_digit b ≡ x → Stops (after_point s) → Stops (cond x (after_point s) (b ∷ s))
  by true e o = o
  by false e o = other e

dot_not : is_digit 46 ≡ false
unfolding is_digit class_of
dot_not = refl

minus_not : is_digit 45 ≡ false
unfolding is_digit class_of
minus_not = refl

empty : (s : List ℕ) → length s ≡ 0 → s ≡ []
empty [] e = refl
empty (b ∷ s) e = absurd (omega arith)

-- ---- a mark in front
begun : (c : ℕ) (s : List ℕ) → begins c s ≡ true → s ≡ c ∷ without c s
unfolding begins without
begun c [] e = holds_not e refl
begun c (b ∷ s) e = rw (e, eqb-true b c e)

not_begun : (c : ℕ) (s : List ℕ) → begins c s ≡ false → without c s ≡ s
unfolding begins without
not_begun c [] e = refl
not_begun c (b ∷ s) e = rw e

signed : (s : List ℕ) → s ≡ perhaps (begins 45 s) ++ without 45 s
signed s = by (begins 45 s) refl where
  by : (x : Bool) → begins 45 s ≡ x → s ≡ perhaps x ++ without 45 s
  by true e = begun 45 s e
  by false e = sym (not_begun 45 s e)

-- ---- complete
rest_stops : {p : Bool} {ds t : List ℕ} → Behind p ds t → Stops t
rest_stops nothing = ends
rest_stops (point d) = other dot_not

no_minus : {w t : List ℕ} {p : Bool} {ds : List ℕ} → Each is_digit w → Behind p ds t → (begins 45 (w ++ t) ≡ false)
    × (without 45 (w ++ t) ≡ w ++ t)
unfolding begins without
no_minus no_more nothing = (refl, refl)
no_minus no_more (point d) = (refl, refl)
no_minus (each {b} {s} e d) f = rw (ne_eqb b 45 (λ q. holds_not e (rw q minus_not))) (refl, refl)

unsigned : (m : Bool) {w t : List ℕ} {p : Bool} {ds : List ℕ} → Each is_digit w → Behind p ds t → (begins 45 (perhaps m ++ (w ++ t)) ≡ m)
    × (without 45 (perhaps m ++ (w ++ t)) ≡ w ++ t)
unfolding begins without
unsigned true d f = (refl, refl)
unsigned false d f = no_minus d f

dotted_is : {p : Bool} {ds t : List ℕ} → Behind p ds t → (begins 46 t ≡ p) × (leading (without 46 t) ≡ ds)
    × (after_point (without 46 t) ≡ [])
unfolding begins without
dotted_is nothing = let k = leads no_more ends in (refl, k.0, k.1)
dotted_is (point {ds} d) = let k = leads {t = []} d ends in let n = append-nil ds in (refl, (rw n at k.0), (rw n at k.1))

pub spelt_is : (place next : ℕ) {cs : List ℕ} {a : Amount} → Spelt place next cs a → amount_read place next cs ≡ a
unfolding amount_read
spelt_is place next s =
    let u = unsigned s.minus s.wholes s.fraction in
    let k = leads s.wholes (rest_stops s.fraction) in
    let f = dotted_is s.fraction in
    rw (s.run, u.0, u.1, s.says) (rw (k.0, k.1, f.0, f.1, f.2) (rw (lt-ltb 0 (length (s.whole ++ s.decimals)) s.some)))

-- ---- sound
none_behind : {l : List ℕ} → Stops l → after_point l ≡ [] → l ≡ []
unfolding after_point
none_behind ends q = refl
none_behind (other h) q = rw h at q

point_at_lem : (f t : List ℕ) → f ≡ 46 ∷ t → Each is_digit t → Behind true t f
point_at_lem f t e d = rw e (point d)

lead_none : leading [] ≡ []
unfolding leading
lead_none = refl

module _ (place next : ℕ) (cs : List ℕ) where
  fraction_of : after_point (without 46 (after_point (without 45 cs))) ≡ []
      → Behind (begins 46 (after_point (without 45 cs))) (leading (without 46 (after_point (without 45 cs)))) (after_point (without 45 cs))
  fraction_of e = by (begins 46 f) refl where
    f : List ℕ
    f = after_point (without 45 cs)

    all : without 46 f ≡ leading (without 46 f)
    all = parts (without 46 f) ∙ ap (λ (l : List ℕ). leading (without 46 f) ++ l) e ∙ append-nil (leading (without 46 f))

    by : (x : Bool) → begins 46 f ≡ x → Behind x (leading (without 46 f)) f
    by true h = point_at_lem f (leading (without 46 f)) (begun 46 f h ∙ ap (λ (l : List ℕ). 46 ∷ l) all) (leading_each (without 46 f))
    by false h =
        let q : without 46 f ≡ f = not_begun 46 f h in
        let z : f ≡ [] = none_behind (behind_stops (without 45 cs)) (ap after_point (sym q) ∙ e) in
        rw (q, z, lead_none) nothing

  pub is_spelt : (amount_read place next cs).formed ≡ true → Spelt place next cs (amount_read place next cs)
  unfolding amount_read
  is_spelt e =
      let w = leading (without 45 cs) in
      let f = after_point (without 45 cs) in
      let tail = without 46 (after_point (without 45 cs)) in
      let stop = empty (after_point tail) (eqb-true (length (after_point tail)) 0
      (and_left (eqb (length (after_point tail)) 0) (ltb 0 (length (w ++ leading tail))) e)) in
      let count = ltb-true 0 (length (w ++ leading tail))
      (and_right (eqb (length (after_point tail)) 0) (ltb 0 (length (w ++ leading tail))) e) in
      record {
        minus = begins 45 cs;
        whole = w;
        dotted = begins 46 f;
        decimals = leading tail;
        rest = f;
        run = signed cs ∙ ap (λ (l : List ℕ). perhaps (begins 45 cs) ++ l) (parts (without 45 cs));
        wholes = leading_each (without 45 cs);
        fraction = fraction_of stop;
        some = count;
        says = rw e;
      }

-- VALUE: characters are a value in form, saying a, exactly when they are spelt so
pub value_exactly : (place next : ℕ) (cs : List ℕ) (a : Amount)
    → ((amount_read place next cs ≡ a) × (a.formed ≡ true)) ↔ Spelt place next cs a
value_exactly place next cs a = (
  λ h. let e = h.0 in rw (← e) (is_spelt place next cs (ap (λ (x : Amount). x.formed) e ∙ h.1)),
  λ s. (spelt_is place next s, ap (λ (x : Amount). x.formed) s.says),
)

-- BARE: what 1.1's struct says of the point is what the rule asks for code 2
pub bare_filled : (place next : ℕ) (a : Amount) → ((filled place next a).point && eqb (filled place next a).whole 0) ≡ bare a
bare_filled place next a = refl

-- ---- the true value of a value in form is what its digits say
digits_all : {w : List ℕ} → Each is_digit w → (t : List ℕ) → digits_in (w ++ t) ≡ w ++ digits_in t
unfolding digits_in
digits_all no_more t = refl
digits_all (each {b} {s} e d) t = rw e (ap (λ (l : List ℕ). b ∷ l) (digits_all d t))

digits_behind : {p : Bool} {ds t : List ℕ} → Behind p ds t → digits_in t ≡ ds
unfolding digits_in
digits_behind nothing = refl
digits_behind (point {ds} d) = rw dot_not (ap digits_in (sym (append-nil ds)) ∙ digits_all d [] ∙ append-nil ds)

digits_signed : (m : Bool) (t : List ℕ) → digits_in (perhaps m ++ t) ≡ digits_in t
unfolding digits_in
digits_signed true t = rw minus_not
digits_signed false t = refl

pub true_size : (place next : ℕ) {cs : List ℕ} {a : Amount} → Spelt place next cs a → true_in cs ≡ a.size
unfolding true_in
true_size place next s =
    ap (λ (l : List ℕ). decimal_of 0 (digits_in l)) s.run
    ∙ ap (decimal_of 0) (digits_signed s.minus (s.whole ++ s.rest) ∙ digits_all s.wholes s.rest
    ∙ ap (λ (l : List ℕ). s.whole ++ l) (digits_behind s.fraction))
    ∙ sym (ap (λ (x : Amount). x.size) s.says)

-- LESS: two values in form compare by what they say, however many digits they have
pub less_true : (p q m n : ℕ) {x y : List ℕ} {a b : Amount} → Spelt p q x a → Spelt m n y b → ltb (true_in x) (true_in y)
    ≡ ltb a.size b.size
less_true p q m n s t = rw (true_size p q s, true_size m n t)
