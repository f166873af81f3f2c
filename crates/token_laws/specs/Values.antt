-- "A value or version is the longest run of digits, points, `+` and `-` .. Quantities have an optional `-`, digits, an optional point, at
-- least one digit in all (`1.`, `.1`; not `+1`)": what `value_at` says of a run, both ways.
use Rattle.std.specs.Prelude.{◌↔◌, Bool, ◌&&◌, ◌||◌, ℕ, ◌+◌, ◌*◌, ◌-◌, ◌≤◌, ◌<◌}
use Rattle.std.proofs.Math.Path.{◌≡◌, refl, sym, ap}
use Rattle.std.proofs.Common.{◌∙◌, arith}
use Rattle.std.proofs.Math.Bool.{true, false, cond}
use mathlib.Core.List.{List, [], ◌∷◌, ◌++◌, append-nil}
use Rattle.std.proofs.Math.Dec.{eqb, ltb}
use Rattle.std.proofs.Math.ListN.{length}
use borrow.Author.Tests.{eqb-true, eq-eqb, ne_eqb, ltb-true, ltb-false}
use Rattle.ascii.specs.rule.Class.{class_of}
use Rattle.scan.specs.rule.Text.{Text, stop, sign, text}
use Rattle.scan.specs.rule.Number.{is_digit, is_value, run_of, run_bytes, decimal_of}
use Rattle.scan.specs.Number.{capped, digits_from}
use Rattle.scan.proofs.Texts.{From, at_stop, at_sign, from_text}
use Rattle.scan.proofs.Runs.{held}
use Rattle.scan.proofs.Orders.{run_ahead}
use Rattle.tokens.specs.declared.Mark.{Mark}
use Rattle.tokens.specs.Token.{mark_of, value_at}

-- ---- the words
-- bytes that are digits
pub data Digits : List ℕ → Type 0 where
  none : Digits []
  more : {b : ℕ} {s : List ℕ} → is_digit b ≡ true → Digits s → Digits (b ∷ s)

-- a byte that may stand: it alone, or nothing
abbrev pub perhaps : Bool → ℕ → List ℕ
perhaps true b = b ∷ []
perhaps false b = []

-- a run in form: a minus or none, digits, a point or none and digits behind it, one digit at least in all
pub record Form (s : List ℕ) : Type 0 where
  pub minus : Bool
  pub whole : List ℕ
  pub point : Bool
  pub rest : List ℕ
  pub run : s ≡ perhaps minus 45 ++ (whole ++ (perhaps point 46 ++ rest))
  pub whole_digits : Digits whole
  pub rest_digits : Digits rest
  pub no_point : point ≡ false → rest ≡ []
  pub some : 0 < length whole + length rest

-- ---- runs, taken apart
-- a list does not begin with a byte that passes
data Stops (f : ℕ → Bool) : List ℕ → Type 0 where
  empty : Stops f []
  other : {b : ℕ} {s : List ℕ} → f b ≡ false → Stops f (b ∷ s)

digit_value : (b : ℕ) → is_digit b ≡ true → is_value b ≡ true
unfolding is_value
digit_value b e = rw e

module _ (d : List ℕ) where
  abbrev run_at : ℕ → List ℕ
  run_at n = run_bytes is_value (text d n)

  abbrev digits_at : ℕ → List ℕ
  digits_at n = run_bytes is_digit (text d n)

  abbrev past : ℕ → ℕ
  past n = run_of is_digit n (text d n)

  -- digits, and what the run has behind them
  after_digits : {n : ℕ} {t : Text} → From d n t → t ≡ text d n → run_bytes is_value t ≡ run_bytes is_digit t
      ++ run_at (run_of is_digit n t)
  unfolding run_bytes run_of
  after_digits at_stop q = ap (run_bytes is_value) q
  after_digits {n} (at_sign {p = p} {b = b} {u = u} g w i r) q = by (is_digit b) refl (after_digits r i) where
    by : (x : Bool) → is_digit b ≡ x → run_bytes is_value u ≡ run_bytes is_digit u ++ run_at (run_of is_digit (p + 1) u)
        → run_bytes is_value (sign p b u) ≡ cond x (b ∷ run_bytes is_digit u) [] ++ run_at (cond x (run_of is_digit (p + 1) u) n)
    by true f ih = rw (digit_value b f) (ap (λ (l : List ℕ). b ∷ l) ih)
    by false f ih = ap (run_bytes is_value) q

  all_digits : (t : Text) → Digits (run_bytes is_digit t)
  unfolding run_bytes
  all_digits (stop p) = none
  all_digits (sign p b t) = by (is_digit b) refl (all_digits t) where
    by : (x : Bool) → is_digit b ≡ x → Digits (run_bytes is_digit t) → Digits (cond x (b ∷ run_bytes is_digit t) [])
    by true f r = more f r
    by false f r = none

  -- a run of digits is the longest: no digit stands behind it
  digits_stop : {n : ℕ} {t : Text} → From d n t → t ≡ text d n → Stops is_digit (run_at (run_of is_digit n t))
  unfolding run_bytes run_of
  digits_stop at_stop q = rw (← q) empty
  digits_stop {n} (at_sign {p = p} {b = b} {u = u} g w i r) q = by (is_digit b) refl (digits_stop r i) where
    first : is_digit b ≡ false → (y : Bool) → Stops is_digit (cond y (b ∷ run_bytes is_value u) [])
    first f true = other f
    first f false = empty

    by : (x : Bool) → is_digit b ≡ x → Stops is_digit (run_at (run_of is_digit (p + 1) u))
        → Stops is_digit (run_at (cond x (run_of is_digit (p + 1) u) n))
    by true f ih = ih
    by false f ih = rw (← q) (first f (is_value b))

  -- the place after the run is that of what stands behind its digits
  past_digits : {n : ℕ} {t : Text} → From d n t → t ≡ text d n
      → run_of is_value n t ≡ run_of is_value (run_of is_digit n t) (text d (run_of is_digit n t))
  unfolding run_of
  past_digits {n} at_stop q = ap (run_of is_value n) q
  past_digits {n} (at_sign {p = p} {b = b} {u = u} g w i r) q = by (is_digit b) refl (past_digits r i) where
    by : (x : Bool) → is_digit b ≡ x
        → run_of is_value (p + 1) u ≡ run_of is_value (run_of is_digit (p + 1) u) (text d (run_of is_digit (p + 1) u))
        → run_of is_value n (sign p b u) ≡ run_of is_value (cond x (run_of is_digit (p + 1) u) n)
        (text d (cond x (run_of is_digit (p + 1) u) n))
    by true f ih = rw (digit_value b f) ih
    by false f ih = ap (run_of is_value n) q

  -- ---- a byte that may stand
  module _ (c : ℕ) (v : is_value c ≡ true) where
    after_mark : {n : ℕ} {t : Text} → From d n t → t ≡ text d n
        → run_bytes is_value t ≡ perhaps (mark_of n c t).there c ++ run_at (mark_of n c t).next
    unfolding run_bytes mark_of
    after_mark at_stop q = ap (run_bytes is_value) q
    after_mark {n} (at_sign {p = p} {b = b} {u = u} g w i r) q = by (eqb b c) refl where
      by : (x : Bool) → eqb b c ≡ x →
          let m = cond {A = Mark} x (record { there = true; next = p + 1 }) (record { there = false; next = n }) in
          run_bytes is_value (sign p b u) ≡ perhaps m.there c ++ run_at m.next
      by true f = rw (eqb-true b c f, v, i)
      by false f = ap (run_bytes is_value) q

    past_mark : {n : ℕ} {t : Text} → From d n t → t ≡ text d n
        → run_of is_value n t ≡ run_of is_value (mark_of n c t).next (text d (mark_of n c t).next)
    unfolding run_of mark_of
    past_mark {n} at_stop q = ap (run_of is_value n) q
    past_mark {n} (at_sign {p = p} {b = b} {u = u} g w i r) q = by (eqb b c) refl where
      by : (x : Bool) → eqb b c ≡ x →
          let m = cond {A = Mark} x (record { there = true; next = p + 1 }) (record { there = false; next = n }) in
          run_of is_value n (sign p b u) ≡ run_of is_value m.next (text d m.next)
      by true f = rw (eqb-true b c f, v, i)
      by false f = ap (run_of is_value n) q

    mark_stops : {n : ℕ} {t : Text} → From d n t → t ≡ text d n → (mark_of n c t).there ≡ false
        → ((mark_of n c t).next ≡ n) × Stops (λ b. eqb b c) (run_at (mark_of n c t).next)
    unfolding run_bytes mark_of
    mark_stops at_stop q e = (refl, rw (← q) empty)
    mark_stops {n} (at_sign {p = p} {b = b} {u = u} g w i r) q e = by (eqb b c) refl e where
      first : eqb b c ≡ false → (y : Bool) → Stops (λ b. eqb b c) (cond y (b ∷ run_bytes is_value u) [])
      first f true = other f
      first f false = empty

      by : (x : Bool) → eqb b c ≡ x →
          let m = cond {A = Mark} x (record { there = true; next = p + 1 }) (record { there = false; next = n }) in
          m.there ≡ false → (m.next ≡ n) × Stops (λ b. eqb b c) (run_at m.next)
      by true f e = let z : ◌≡◌ {A = ℕ} 0 1 = cc in absurd (omega arith)
      by false f e = (refl, rw (← q) (first f (is_value b)))

  -- ---- nothing is left of the run
  pub run_empty : {n : ℕ} {t : Text} → From d n t → (run_of is_value n t ≡ n) ↔ (run_bytes is_value t ≡ [])
  unfolding run_bytes run_of
  run_empty at_stop = (λ e. refl, λ e. refl)
  run_empty {n} (at_sign {p = p} {b = b} {u = u} g w i r) = by (is_value b) (run_ahead d is_value r) where
    by : (x : Bool) → p + 1 ≤ run_of is_value (p + 1) u
        → (cond x (run_of is_value (p + 1) u) n ≡ n) ↔ (cond x (b ∷ run_bytes is_value u) [] ≡ [])
    by true h = (λ e. absurd (omega arith), λ e. let z : ◌≡◌ {A = ℕ} 0 1 = cc in absurd (omega arith))
    by false h = (λ e. refl, λ e. refl)

-- ---- a run is taken apart in one way
clash : {A : Type 0} (f : ℕ → Bool) (b c : ℕ) → f b ≡ true → f c ≡ false → b ≡ c → A
clash f b c e g h = let k : f c ≡ true = rw h at e in let z : ◌≡◌ {A = ℕ} 0 1 = cc in absurd (omega arith)

greedy : {w x w' x' : List ℕ} → Digits w → Stops is_digit x → Digits w' → Stops is_digit x' → w ++ x ≡ w' ++ x' → (w ≡ w') × (x ≡ x')
greedy none s none s' e = (refl, e)
greedy none empty (more f r) s' e = let z : ◌≡◌ {A = ℕ} 0 1 = cc in absurd (omega arith)
greedy none (other {b = b} g) (more {b = c} f r) s' e = clash is_digit c b f g cc
greedy (more f r) s none empty e = let z : ◌≡◌ {A = ℕ} 0 1 = cc in absurd (omega arith)
greedy (more {b = b} f r) s none (other {b = c} g) e = clash is_digit b c f g cc
greedy {x = x} {x' = x'} (more {b = b} {s = u} f r) s (more {b = c} {s = v} g q) s' e =
    let h : u ++ x ≡ v ++ x' = cc in
    let i = greedy r s q s' h in
    let j : b ≡ c = cc in
    (rw (j, i.0), i.1)

marked : (c : ℕ) (m m' : Bool) {y y' : List ℕ} → (m ≡ false → Stops (λ b. eqb b c) y) → (m' ≡ false → Stops (λ b. eqb b c) y')
    → perhaps m c ++ y ≡ perhaps m' c ++ y' → (m ≡ m') × (y ≡ y')
marked c true true s s' e = (refl, cc)
marked c false false s s' e = (refl, e)
marked c true false s s' e = by (s' refl) e where
  by : {y z : List ℕ} → Stops (λ b. eqb b c) z → c ∷ y ≡ z → (true ≡ false) × (y ≡ z)
  by empty e = let z : ◌≡◌ {A = ℕ} 0 1 = cc in absurd (omega arith)
  by (other {b = b} f) e = clash (λ b. eqb b c) c b (eq-eqb c c refl) f cc
marked c false true s s' e = by (s refl) e where
  by : {y z : List ℕ} → Stops (λ b. eqb b c) z → z ≡ c ∷ y → (false ≡ true) × (z ≡ y)
  by empty e = let z : ◌≡◌ {A = ℕ} 0 1 = cc in absurd (omega arith)
  by (other {b = b} f) e = clash (λ b. eqb b c) c b (eq-eqb c c refl) f cc

-- ---- THE VALUE
no_digit : (is_digit 45 ≡ false) × (is_digit 46 ≡ false)
unfolding is_digit class_of
no_digit = (refl, refl)

may_stand : (is_value 45 ≡ true) × (is_value 46 ≡ true)
unfolding is_value is_digit class_of
may_stand = (refl, refl)

-- what a form has behind its minus, and behind its whole digits
module _ {s : List ℕ} (f : Form s) where
  behind_whole : Stops is_digit (perhaps f.point 46 ++ f.rest)
  behind_whole = by f.point f.no_point where
    by : (p : Bool) → (p ≡ false → f.rest ≡ []) → Stops is_digit (perhaps p 46 ++ f.rest)
    by true h = other no_digit.1
    by false h = rw (h refl) empty

  no_minus : Stops (λ b. eqb b 45) (f.whole ++ (perhaps f.point 46 ++ f.rest))
  no_minus = by f.whole_digits f.point f.no_point where
    by : {w : List ℕ} → Digits w → (p : Bool) → (p ≡ false → f.rest ≡ []) → Stops (λ b. eqb b 45) (w ++ (perhaps p 46 ++ f.rest))
    by none true h = other refl
    by none false h = rw (h refl) empty
    by (more {b = b} g r) p h = other (ne_eqb b 45 (λ e. clash is_digit b 45 g no_digit.0 e))

decimal_append : (s t : List ℕ) (n : ℕ) → decimal_of n (s ++ t) ≡ decimal_of (decimal_of n s) t
unfolding decimal_of
decimal_append [] t n = refl
decimal_append (b ∷ s) t n = decimal_append s t (n * 10 + (b - 48))

module _ (d : List ℕ) (at : ℕ) where
  abbrev minus : Mark
  minus = mark_of at 45 (text d at)

  abbrev whole : List ℕ
  whole = digits_at d minus.next

  abbrev middle : ℕ
  middle = past d minus.next

  abbrev point : Mark
  point = mark_of middle 46 (text d middle)

  abbrev rest : List ℕ
  rest = digits_at d point.next

  abbrev last : ℕ
  last = past d point.next

  -- the run, as the reader takes it apart
  apart : run_at d at ≡ perhaps minus.there 45 ++ (whole ++ (perhaps point.there 46 ++ (rest ++ run_at d last)))
  apart =
      after_mark d 45 may_stand.0 (from_text d at) refl
      ∙ ap (λ (l : List ℕ). perhaps minus.there 45 ++ l) (after_digits d (from_text d minus.next) refl
      ∙ ap (λ (l : List ℕ). whole ++ l) (after_mark d 46 may_stand.1 (from_text d middle) refl
      ∙ ap (λ (l : List ℕ). perhaps point.there 46 ++ l) (after_digits d (from_text d point.next) refl)))

  -- THE LONGEST RUN: what is read next stands behind it
  pub value_run : (value_at d at).next ≡ run_of is_value at (text d at)
  unfolding value_at digits_from
  value_run =
      sym (past_mark d 45 may_stand.0 (from_text d at) refl ∙ past_digits d (from_text d minus.next) refl
      ∙ past_mark d 46 may_stand.1 (from_text d middle) refl ∙ past_digits d (from_text d point.next) refl)

  -- with no point no digits stand behind it
  pointless : point.there ≡ false → rest ≡ []
  pointless e = by (mark_stops d 46 may_stand.1 (from_text d middle) refl e).0 where
    none_of : (x : List ℕ) {s : List ℕ} → Digits s → Stops is_digit (s ++ x) → s ≡ []
    none_of x none r = refl
    none_of x (more {b = b} f q) (other g) = clash is_digit b b f g refl

    by : point.next ≡ middle → rest ≡ []
    by q = rw q (none_of (run_at d (past d middle)) (all_digits d (text d middle))
        (rw (after_digits d (from_text d middle) refl) at (digits_stop d (from_text d minus.next) refl)))

  module _ (f : Form (run_at d at)) where
    same_minus : (minus.there ≡ f.minus) × (run_at d minus.next ≡ f.whole ++ (perhaps f.point 46 ++ f.rest))
    same_minus =
        marked 45 minus.there f.minus (λ e. (mark_stops d 45 may_stand.0 (from_text d at) refl e).1) (λ e. no_minus f)
        (sym (after_mark d 45 may_stand.0 (from_text d at) refl) ∙ f.run)

    same_whole : (whole ≡ f.whole) × (run_at d middle ≡ perhaps f.point 46 ++ f.rest)
    same_whole =
        greedy (all_digits d (text d minus.next)) (digits_stop d (from_text d minus.next) refl) f.whole_digits (behind_whole f)
        (sym (after_digits d (from_text d minus.next) refl) ∙ same_minus.1)

    same_point : (point.there ≡ f.point) × (run_at d point.next ≡ f.rest)
    same_point =
        marked 46 point.there f.point (λ e. (mark_stops d 46 may_stand.1 (from_text d middle) refl e).1)
        (λ e. rw (f.no_point e) empty)
        (sym (after_mark d 46 may_stand.1 (from_text d middle) refl) ∙ same_whole.1)

    same_rest : (rest ≡ f.rest) × (run_at d last ≡ [])
    same_rest =
        greedy (all_digits d (text d point.next)) (digits_stop d (from_text d point.next) refl) f.rest_digits empty
        (sym (after_digits d (from_text d point.next) refl) ∙ same_point.1 ∙ sym (append-nil f.rest))

    -- SAYS: a run in form says its minus, its point, how many digits stand behind it, and the number of all its digits, held at 10 ^ 15
    pub value_says :
        ((value_at d at).minus ≡ f.minus) × ((value_at d at).point ≡ f.point) × ((value_at d at).decimals ≡ length f.rest)
        × ((value_at d at).size ≡ capped (decimal_of 0 (f.whole ++ f.rest)))
    unfolding value_at digits_from
    value_says = (
      same_minus.0,
      same_point.0,
      rw same_rest.0 (omega arith),
      rw (same_whole.0, same_rest.0, decimal_append f.whole f.rest 0) (held (decimal_of 0 f.whole) f.rest),
    )

    formed_so : (value_at d at).formed ≡ true
    unfolding value_at digits_from
    formed_so =
        rw (eq-eqb _ _ ((run_empty d (from_text d last)).1 same_rest.1))
        (by (ltb 0 (0 + length whole)) (ltb 0 (0 + length rest)) refl refl) where
          by : (x y : Bool) → ltb 0 (0 + length whole) ≡ x → ltb 0 (0 + length rest) ≡ y → (x || y) ≡ true
          by true y e g = refl
          by false true e g = refl
          by false false e g =
              let a = ltb-false 0 (0 + length whole) e in
              let b = ltb-false 0 (0 + length rest) g in
              let h = ap length same_whole.0 in
              let k = ap length same_rest.0 in
              let z = f.some in
              absurd (omega arith)

  form_of : (value_at d at).formed ≡ true → Form (run_at d at)
  unfolding value_at digits_from
  form_of = by (eqb (run_of is_value last (text d last)) last) (ltb 0 (0 + length whole)) (ltb 0 (0 + length rest)) refl refl refl where
    build : run_of is_value last (text d last) ≡ last → 0 < length whole + length rest → Form (run_at d at)
    build e h = record {
      minus = minus.there;
      whole = whole;
      point = point.there;
      rest = rest;
      run = apart ∙ rw ((run_empty d (from_text d last)).0 e, append-nil rest);
      whole_digits = all_digits d (text d minus.next);
      rest_digits = all_digits d (text d point.next);
      no_point = pointless;
      some = h;
    }

    by : (x y z : Bool) → eqb (run_of is_value last (text d last)) last ≡ x → ltb 0 (0 + length whole) ≡ y → ltb 0 (0 + length rest) ≡ z
        → (x && (y || z)) ≡ true → Form (run_at d at)
    by true true z e g h i = let k = ltb-true 0 (0 + length whole) g in build (eqb-true _ _ e) (omega arith)
    by true false true e g h i = let k = ltb-true 0 (0 + length rest) h in build (eqb-true _ _ e) (omega arith)
    by true false false e g h i = let z : ◌≡◌ {A = ℕ} 0 1 = cc in absurd (omega arith)
    by false y z e g h i = let z : ◌≡◌ {A = ℕ} 0 1 = cc in absurd (omega arith)

  -- FORM: a value is formed exactly when its run, the longest one, has the form
  pub value_exactly : ((value_at d at).formed ≡ true) ↔ Form (run_bytes is_value (text d at))
  value_exactly = (form_of, formed_so)
