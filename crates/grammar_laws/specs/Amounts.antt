-- Numbers and values by their true value, however long: a run is the longest, a number says what its digits say, and a value in form says
-- its
-- minus, its point, how many digits stand before and behind it, and the number of all its digits.
use Rattle.std.specs.Prelude.{◌↔◌, ◌≡◌, Bool, cond, ◌&&◌, List, [], ◌∷◌, ◌++◌, ℕ, ◌+◌, ◌*◌, ◌-◌, ◌<◌, length}
use Rattle.std.proofs.Math.Path.{refl}
use Rattle.std.proofs.Common.{◌∙◌, ap, append-nil, arith, length-append, eq-eqb, ne_eqb, lt-ltb, eqb-true, ltb-true}
use Rattle.std.proofs.Math.Bool.{true, false}
use Rattle.std.proofs.Math.Dec.{eqb, ltb}
use Rattle.ascii.specs.rule.Class.{class_of}
use Rattle.scan.specs.rule.Text as scan
use Rattle.scan.specs.rule.Number.{is_digit, run_of, run_bytes, decimal_of}
use Rattle.scan.proofs.Orders.{digit_bounds}
use Rattle.token_laws.specs.Values.{Digits, none, more, perhaps, Form}
use Rattle.survey.specs.rule.Survey.{Amount}
use Rattle.reading.specs.rule.Token.{leading, after_point, begins, without, amount_read}
use Rattle.bridge.specs.Lowest.{never}
use Rattle.grammar.specs.Token.{Run}
use Rattle.grammar_laws.specs.Tokens.{run_there, run_read}

-- THE LONGEST RUN: from n on the bytes s pass, up to m, and the byte there does not, exactly when they are the bytes that the rule has
pub run_exactly : (f : ℕ → Bool) (n : ℕ) (t : scan.Text) (s : List ℕ) (m : ℕ) → ((run_of f n t ≡ m) × (run_bytes f t ≡ s)) ↔ Run f n t s m
run_exactly f n t s m = (λ e. rw (e.0, e.1) at (run_read f n t), run_there)

-- DIGITS: one digit more says ten times as much and the digit
pub digits_say : (s : List ℕ) (n b : ℕ) → decimal_of n (s ++ b ∷ []) ≡ decimal_of n s * 10 + (b - 48)
unfolding decimal_of
digits_say [] n b = refl
digits_say (c ∷ s) n b = digits_say s (n * 10 + (c - 48)) b

-- ---- a list that no digit begins
data Blunt : List ℕ → Type 0 where
  empty : Blunt []
  other : {b : ℕ} {s : List ℕ} → is_digit b ≡ false → Blunt (b ∷ s)

leading_is : {w x : List ℕ} → Digits w → Blunt x → leading (w ++ x) ≡ w
unfolding leading
leading_is none empty = refl
leading_is none (other e) = rw e
leading_is (more {b = b} e r) h = rw e (ap (λ (l : List ℕ). b ∷ l) (leading_is r h))

behind_is : {w x : List ℕ} → Digits w → Blunt x → after_point (w ++ x) ≡ x
unfolding after_point
behind_is none empty = refl
behind_is none (other e) = rw e
behind_is (more e r) h = rw e (behind_is r h)

digits_alone : {w : List ℕ} → Digits w → (leading w ≡ w) × (after_point w ≡ [])
digits_alone {w} r = (rw (append-nil w) at (leading_is r empty), rw (append-nil w) at (behind_is r empty))

no_digit : is_digit 46 ≡ false
unfolding is_digit class_of
no_digit = refl

-- ---- a byte that may stand in front
marked : (c : ℕ) (m : Bool) (y : List ℕ) → (m ≡ false → begins c y ≡ false)
    → (begins c (perhaps m c ++ y) ≡ m) × (without c (perhaps m c ++ y) ≡ y)
unfolding begins without
marked c true y h = (eq-eqb c c refl, rw (eq-eqb c c refl))
marked c false [] h = (refl, refl)
marked c false (b ∷ y) h = (h refl, rw (h refl))

digits_no_minus : {w : List ℕ} (x : List ℕ) → Digits w → begins 45 x ≡ false → begins 45 (w ++ x) ≡ false
unfolding begins
digits_no_minus x none h = h
digits_no_minus x (more {b = b} e r) h = ne_eqb b 45 (λ q. let g = (digit_bounds b e).0 in omega arith)

module _ {s : List ℕ} (f : Form s) where
  abbrev tail : List ℕ
  tail = perhaps f.point 46 ++ f.rest

  abbrev unsigned : List ℕ
  unsigned = f.whole ++ tail

  tail_blunt : Blunt tail
  tail_blunt = by f.point f.no_point where
    by : (p : Bool) → (p ≡ false → f.rest ≡ []) → Blunt (perhaps p 46 ++ f.rest)
    by true h = other no_digit
    by false h = rw (h refl) empty

  tail_no_minus : begins 45 tail ≡ false
  unfolding begins
  tail_no_minus = by f.point f.no_point where
    by : (p : Bool) → (p ≡ false → f.rest ≡ []) → begins 45 (perhaps p 46 ++ f.rest) ≡ false
    by true h = refl
    by false h = rw (h refl)

  minus_is : (begins 45 s ≡ f.minus) × (without 45 s ≡ unsigned)
  minus_is =
      let m = marked 45 f.minus unsigned (λ e. digits_no_minus tail f.whole_digits tail_no_minus) in
      (rw f.run m.0, rw f.run m.1)

  point_is : (begins 46 tail ≡ f.point) × (without 46 tail ≡ f.rest)
  unfolding begins
  point_is = marked 46 f.point f.rest (λ e. rw (f.no_point e))

  some_digit : ltb 0 (length (f.whole ++ f.rest)) ≡ true
  some_digit = let h = f.some in lt-ltb 0 (length (f.whole ++ f.rest)) (rw (length-append f.whole f.rest) h)

  -- A VALUE IN FORM says just this
  pub amount_says : (n m : ℕ) → amount_read n m s ≡ record {
    place = n;
    end = m;
    minus = f.minus;
    whole = length f.whole;
    point = f.point;
    decimals = length f.rest;
    size = decimal_of 0 (f.whole ++ f.rest);
    formed = true;
  }
  unfolding amount_read
  amount_says n m =
      rw (
        minus_is.0,
        minus_is.1,
        leading_is f.whole_digits tail_blunt,
        behind_is f.whole_digits tail_blunt,
        point_is.0,
        point_is.1,
        (digits_alone f.rest_digits).0,
        (digits_alone f.rest_digits).1,
        some_digit,
      )

-- ---- and a value that is formed has the form
split_mark : (c : ℕ) (s : List ℕ) → s ≡ perhaps (begins c s) c ++ without c s
unfolding begins without
split_mark c [] = refl
split_mark c (b ∷ s) = by (eqb b c) refl where
  by : (q : Bool) → eqb b c ≡ q → b ∷ s ≡ perhaps q c ++ cond q s (b ∷ s)
  by true e = rw (eqb-true b c e)
  by false e = refl

split_digits : (s : List ℕ) → s ≡ leading s ++ after_point s
unfolding leading after_point
split_digits [] = refl
split_digits (b ∷ s) = by (is_digit b) (split_digits s) where
  by : (q : Bool) → s ≡ leading s ++ after_point s → b ∷ s ≡ cond q (b ∷ leading s) [] ++ cond q (after_point s) (b ∷ s)
  by true e = ap (λ (l : List ℕ). b ∷ l) e
  by false e = refl

all_digits : (s : List ℕ) → Digits (leading s)
unfolding leading
all_digits [] = none
all_digits (b ∷ s) = by (is_digit b) refl (all_digits s) where
  by : (q : Bool) → is_digit b ≡ q → Digits (leading s) → Digits (cond q (b ∷ leading s) [])
  by true e r = more e r
  by false e r = none

none_behind : (s : List ℕ) → leading (after_point s) ≡ []
unfolding leading after_point
none_behind [] = refl
none_behind (b ∷ s) = by (is_digit b) refl (none_behind s) where
  by : (q : Bool) → is_digit b ≡ q → leading (after_point s) ≡ [] → leading (cond q (after_point s) (b ∷ s)) ≡ []
  by true e h = h
  by false e h = rw e

unmarked : (c : ℕ) (s : List ℕ) → begins c s ≡ false → without c s ≡ s
unfolding begins without
unmarked c [] e = refl
unmarked c (b ∷ s) e = rw e

module _ (s : List ℕ) where
  abbrev digits_of : List ℕ
  digits_of = without 45 s

  abbrev fraction : List ℕ
  fraction = after_point digits_of

  abbrev decimals : List ℕ
  decimals = without 46 fraction

  form_from : after_point decimals ≡ [] → 0 < length (leading digits_of ++ leading decimals) → Form s
  form_from e h = record {
    minus = begins 45 s;
    whole = leading digits_of;
    point = begins 46 fraction;
    rest = leading decimals;
    run =
        split_mark 45 s
        ∙ ap (λ (l : List ℕ). perhaps (begins 45 s) 45 ++ l) (split_digits digits_of
        ∙ ap (λ (l : List ℕ). leading digits_of ++ l) (split_mark 46 fraction
        ∙ ap (λ (l : List ℕ). perhaps (begins 46 fraction) 46 ++ l) (split_digits decimals
        ∙ (ap (λ (l : List ℕ). leading decimals ++ l) e ∙ append-nil (leading decimals)))));
    whole_digits = all_digits digits_of;
    rest_digits = all_digits decimals;
    no_point = λ q. ap leading (unmarked 46 fraction q) ∙ none_behind digits_of;
    some = rw (length-append (leading digits_of) (leading decimals)) at h;
  }

  nothing : (l : List ℕ) → length l ≡ 0 → l ≡ []
  nothing [] e = refl
  nothing (b ∷ l) e = absurd (omega arith)

  formed_form : (n m : ℕ) → (amount_read n m s).formed ≡ true → Form s
  unfolding amount_read
  formed_form n m = by (eqb (length (after_point decimals)) 0) (ltb 0 (length (leading digits_of ++ leading decimals))) refl refl where
    by : (p q : Bool) → eqb (length (after_point decimals)) 0 ≡ p → ltb 0 (length (leading digits_of ++ leading decimals)) ≡ q → (p && q)
        ≡ true
        → Form s
    by true true e g h = form_from (nothing (after_point decimals) (eqb-true _ _ e)) (ltb-true 0 _ g)
    by true false e g h = never cc
    by false q e g h = never cc

  -- FORMED EXACTLY: a minus or none, digits, a point or none, digits, nothing else, and one digit at least
  pub formed_exactly : (n m : ℕ) → ((amount_read n m s).formed ≡ true) ↔ Form s
  formed_exactly n m = (formed_form n m, λ f. ap (λ (a : Amount). a.formed) (amount_says f n m))
