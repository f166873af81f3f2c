-- A value, right here: what the code's books gather mark by mark and run by run is what the bytes of its run say.
use Rattle.std.specs.Prelude.{◌≡◌, Bool, ◌&&◌, ◌||◌, ℕ, suc, ◌+◌, ◌-◌, ◌*◌, ◌≤◌, leb, length, Ok, Err}
use Rattle.std.proofs.Math.Path.{refl, sym, ap}
use Rattle.std.proofs.Common.{◌∙◌}
use Rattle.std.proofs.Math.Bool.{true, false, cond}
use mathlib.Core.List.{List, [], ◌∷◌, ◌++◌, append-nil}
use Rattle.std.proofs.Math.Nat.{zero-add}
use native.Mathlib.Omega.{arith}
use Rattle.std.proofs.Math.Dec.{eqb, ltb}
use borrow.Author.Tests.{eq-eqb, ne_eqb, eqb-true, lt-ltb, lt-leb, le-leb}
use Rattle.ascii.specs.rule.Class.{class_of}
use Rattle.scan.specs.rule.Text.{Text, stop, sign, text}
use Rattle.scan.specs.rule.Number.{is_digit, is_value, run_of, run_bytes, decimal_of}
use Rattle.scan.specs.Number.{capped, digits_from}
use Rattle.scan.specs.Order.{digits_to, value_of}
use Rattle.scan.proofs.Texts.{From, at_stop, at_sign, from_text}
use Rattle.scan.proofs.Orders.{run_ahead}
use Rattle.scan.proofs.Runs.{held}
use Rattle.tokens.specs.declared.Fault.{Fault}
use Rattle.tokens.specs.declared.Mark.{Mark}
use Rattle.tokens.specs.declared.Value.{Value}
use Rattle.tokens.specs.rule.Gap.{fault, OrFault}
use Rattle.tokens.specs.Token.{mark_of, value_at, of_value, value_here}
use Rattle.survey.specs.rule.Survey.{Amount}
use Rattle.reading.specs.rule.Result.{Result, Is, Not}
use Rattle.reading.specs.rule.Token.{leading, after_point, begins, without, amount_read, amount}
use Rattle.bridge.specs.Lowest.{never}

-- ---- a value as the code's books have it: x is the place behind its minus, y that behind its last digit
abbrev pub written : Amount → ℕ → ℕ → ℕ → Value
written a x y m = record {
  minus = a.minus;
  size = capped a.size;
  whole = a.whole;
  decimals = a.decimals;
  point = a.point;
  formed = a.formed;
  place = a.place;
  first = x;
  last = y;
  next = m;
}

pub data Valued (d : List ℕ) (n : ℕ) : OrFault Value → Result Amount → Type 0 where
  valued : {a : Amount} {x y m : ℕ} → value_of d x y ≡ a.size → n ≤ a.place → a.place ≤ m
      → Valued d n (Ok (written a x y m)) (Is a m)
  unvalued : {f : Fault} → Valued d n (Err f) (Not f)

dot : is_digit 46 ≡ false
unfolding is_digit class_of
dot = refl

minus_value : is_value 45 ≡ true
unfolding is_value is_digit class_of
minus_value = refl

point_value : is_value 46 ≡ true
unfolding is_value is_digit class_of
point_value = refl

decimal_append : (s t : List ℕ) (n : ℕ) → decimal_of n (s ++ t) ≡ decimal_of (decimal_of n s) t
unfolding decimal_of
decimal_append [] t n = refl
decimal_append (b ∷ s) t n = decimal_append s t (n * 10 + (b - 48))

digit_value : (b : ℕ) → is_digit b ≡ true → is_value b ≡ true
unfolding is_value
digit_value b e = rw e

-- what stands from n on is a beginning, and then the run from k on
record Joins (d : List ℕ) (n : ℕ) (t : Text) (s : List ℕ) (k : ℕ) : Type 0 where
  run : run_of is_value n t ≡ run_of is_value k (text d k)
  rest : s ≡ run_bytes is_value (text d k)

module _ (d : List ℕ) where
  -- ---- a mark, and what is left of the run behind it
  mark_there : (c : ℕ) → is_value c ≡ true → {n : ℕ} {t : Text} → From d n t → (mark_of n c t).there ≡ begins c (run_bytes is_value t)
  unfolding run_bytes mark_of begins
  mark_there c k at_stop = refl
  mark_there c k {n} (at_sign {p = p} {b = b} {u = u} h w e r) = by (eqb b c) (is_value b) refl refl where
    by : (x y : Bool) → eqb b c ≡ x → is_value b ≡ y
        → (cond {A = Mark} x (record { there = true; next = p + 1 }) (record { there = false; next = n })).there
        ≡ begins c (cond y (b ∷ run_bytes is_value u) [])
    by true true i j = sym i
    by true false i j = let z = eqb-true b c i in never cc
    by false true i j = sym i
    by false false i j = refl

  mark_joins : (c : ℕ) → is_value c ≡ true → {n : ℕ} {t : Text} → From d n t → t ≡ text d n
      → Joins d n t (without c (run_bytes is_value t)) (mark_of n c t).next
  unfolding run_of run_bytes mark_of without
  mark_joins c k {n} at_stop q = record { run = ap (run_of is_value n) q; rest = ap (run_bytes is_value) q }
  mark_joins c k {n} (at_sign {p = p} {b = b} {u = u} h w e r) q = by (eqb b c) refl where
    by : (x : Bool) → eqb b c ≡ x
        → Joins d n (sign p b u) (without c (run_bytes is_value (sign p b u)))
        (cond {A = Mark} x (record { there = true; next = p + 1 }) (record { there = false; next = n })).next
    by true y =
        let v : is_value b ≡ true = rw (eqb-true b c y) k in
        record { run = rw v (ap (run_of is_value (p + 1)) e); rest = rw (v, y) (ap (run_bytes is_value) e) }
    by false y = record { run = ap (run_of is_value n) q; rest = other (is_value b) ∙ ap (run_bytes is_value) q } where
      other : (v : Bool) → without c (cond v (b ∷ run_bytes is_value u) []) ≡ cond v (b ∷ run_bytes is_value u) []
      other true = rw y
      other false = refl

  -- ---- digits, and what is left behind them
  digits_there : (t : Text) → run_bytes is_digit t ≡ leading (run_bytes is_value t)
  unfolding run_bytes leading
  digits_there (stop p) = refl
  digits_there (sign p b u) = by (is_digit b) refl (digits_there u) where
    by : (x : Bool) → is_digit b ≡ x → run_bytes is_digit u ≡ leading (run_bytes is_value u)
        → cond x (b ∷ run_bytes is_digit u) [] ≡ leading (cond (is_value b) (b ∷ run_bytes is_value u) [])
    by true e ih = rw (digit_value b e) (rw e (ap (λ (l : List ℕ). b ∷ l) ih))
    by false e ih = other (is_value b) where
      other : (y : Bool) → [] ≡ leading (cond y (b ∷ run_bytes is_value u) [])
      other true = rw e
      other false = refl

  digits_joins : {n : ℕ} {t : Text} → From d n t → t ≡ text d n → Joins d n t (after_point (run_bytes is_value t)) (run_of is_digit n t)
  unfolding run_of run_bytes after_point
  digits_joins {n} at_stop q = record { run = ap (run_of is_value n) q; rest = ap (run_bytes is_value) q }
  digits_joins {n} (at_sign {p = p} {b = b} {u = u} h w e r) q = by (is_digit b) refl (digits_joins r e) where
    by : (x : Bool) → is_digit b ≡ x → Joins d (p + 1) u (after_point (run_bytes is_value u)) (run_of is_digit (p + 1) u)
        → Joins d n (sign p b u) (after_point (cond (is_value b) (b ∷ run_bytes is_value u) [])) (cond x (run_of is_digit (p + 1) u) n)
    by true i j = let z = digit_value b i in record { run = rw z j.run; rest = rw (z, i) j.rest }
    by false i j = record { run = ap (run_of is_value n) q; rest = other (is_value b) ∙ ap (run_bytes is_value) q } where
      other : (v : Bool) → after_point (cond v (b ∷ run_bytes is_value u) []) ≡ cond v (b ∷ run_bytes is_value u) []
      other true = rw i
      other false = refl

  -- a run that ends where it starts has no byte
  pub run_empty : (n : ℕ) {t : Text} → From d n t → eqb (run_of is_value n t) n ≡ eqb (length (run_bytes is_value t)) 0
  unfolding run_of run_bytes
  run_empty n at_stop = rw (eq-eqb n n refl)
  run_empty n (at_sign {p = p} {b = b} {u = u} h w e r) = by (is_value b) (run_ahead d is_value r) where
    by : (q : Bool) → p + 1 ≤ run_of is_value (p + 1) u
        → eqb (cond q (run_of is_value (p + 1) u) n) n ≡ eqb (length (cond q (b ∷ run_bytes is_value u) [])) 0
    by true i = rw (
      ne_eqb (run_of is_value (p + 1) u) n (λ z. omega arith),
      ne_eqb (suc (length (run_bytes is_value u))) 0 (λ z. omega arith),
    )
    by false i = rw (eq-eqb n n refl)

  -- ---- the number between the places of the digits
  module _ (e : ℕ) where
    -- digits up to e: a run of them, and then those from its end on
    digits_split : {n : ℕ} {t : Text} → From d n t → t ≡ text d n → run_of is_digit n t ≤ e
        → digits_to e t ≡ run_bytes is_digit t ++ digits_to e (text d (run_of is_digit n t))
    unfolding digits_to run_bytes run_of
    digits_split at_stop q h = ap (digits_to e) q
    digits_split {n} (at_sign {p = p} {b = b} {u = u} g w i r) q h =
        by (is_digit b) refl (run_ahead d is_digit r) (digits_split r i) q h where
          by : (x : Bool) → is_digit b ≡ x → p + 1 ≤ run_of is_digit (p + 1) u
              → (run_of is_digit (p + 1) u ≤ e → digits_to e u ≡ run_bytes is_digit u ++ digits_to e (text d (run_of is_digit (p + 1) u)))
              → sign p b u ≡ text d n → cond x (run_of is_digit (p + 1) u) n ≤ e
              → cond (leb e p) [] (cond (is_digit b) (b ∷ digits_to e u) (digits_to e u))
              ≡ cond x (b ∷ run_bytes is_digit u) [] ++ digits_to e (text d (cond x (run_of is_digit (p + 1) u) n))
          by true f k ih q h = rw (lt-leb e p (omega arith), f, ih h)
          by false f k ih q h = ap (digits_to e) q

    -- no digit stands before e from e on
    none_left : {t : Text} → From d e t → digits_to e t ≡ []
    unfolding digits_to
    none_left at_stop = refl
    none_left (at_sign {p = p} g w i r) = rw (le-leb e p g)

    -- a point is no digit
    past_point : (n : ℕ) {t : Text} → From d n t → t ≡ text d n → (mark_of n 46 t).next ≤ e
        → digits_to e t ≡ digits_to e (text d (mark_of n 46 t).next)
    unfolding mark_of digits_to
    past_point n at_stop q h = ap (digits_to e) q
    past_point n (at_sign {p = p} {b = b} {u = u} g w i r) q h = by (eqb b 46) refl h where
      by : (x : Bool) → eqb b 46 ≡ x
          → (cond {A = Mark} x (record { there = true; next = p + 1 }) (record { there = false; next = n })).next ≤ e
          → digits_to e (sign p b u)
          ≡ digits_to e (text d (cond {A = Mark} x (record { there = true; next = p + 1 }) (record { there = false; next = n })).next)
      by true f h = rw (eqb-true b 46 f, lt-leb e p (omega arith), dot, i)
      by false f h = ap (digits_to e) q

  mark_ahead : (n b : ℕ) {t : Text} → From d n t → n ≤ (mark_of n b t).next
  unfolding mark_of
  mark_ahead n b at_stop = omega arith
  mark_ahead n b (at_sign {p = p} {b = c} g w i r) = by (eqb c b) where
    by : (x : Bool) → n ≤ (cond {A = Mark} x (record { there = true; next = p + 1 }) (record { there = false; next = n })).next
    by true = omega arith
    by false = omega arith

  module _ (n : ℕ) where
    abbrev m : ℕ
    m = (mark_of n 45 (text d n)).next

    abbrev k : ℕ
    k = run_of is_digit m (text d m)

    abbrev o : ℕ
    o = (mark_of k 46 (text d k)).next

    abbrev e : ℕ
    e = run_of is_digit o (text d o)

    abbrev W : List ℕ
    W = run_bytes is_digit (text d m)

    abbrev F : List ℕ
    F = run_bytes is_digit (text d o)

    says : value_of d m e ≡ decimal_of 0 (W ++ F)
    unfolding value_of
    says =
        let ke : k ≤ o = mark_ahead k 46 (from_text d k) in
        let oe : o ≤ e = run_ahead d is_digit (from_text d o) in
        let s : digits_to e (text d m) ≡ W ++ digits_to e (text d k) = digits_split e (from_text d m) refl (omega arith) in
        let p : digits_to e (text d k) ≡ digits_to e (text d o) = past_point e k (from_text d k) refl oe in
        let t : digits_to e (text d o) ≡ F ++ digits_to e (text d e) = digits_split e (from_text d o) refl (omega arith) in
        let z : digits_to e (text d e) ≡ [] = none_left e (from_text d e) in
        ap (decimal_of 0) (rw (s, p, t, z) (ap (λ l. W ++ l) (append-nil F)))

    some_digit : (s t : List ℕ) → (ltb 0 (length s) || ltb 0 (length t)) ≡ ltb 0 (length (s ++ t))
    some_digit [] t = refl
    some_digit (x ∷ s) t = rw (lt-ltb 0 (suc (length s)) (omega arith), lt-ltb 0 (suc (length (s ++ t))) (omega arith))

    abbrev end : ℕ
    end = run_of is_value n (text d n)

    value_is : value_at d n ≡ written (amount_read n end (run_bytes is_value (text d n))) m e end
    unfolding value_at digits_from amount_read
    value_is =
        let j1 = mark_joins 45 minus_value (from_text d n) refl in
        let j2 = digits_joins (from_text d m) refl in
        let j3 = mark_joins 46 point_value (from_text d k) refl in
        let j4 = digits_joins (from_text d o) refl in
        let a1 = mark_there 45 minus_value (from_text d n) in
        let a2 = mark_there 46 point_value (from_text d k) in
        let run : end ≡ run_of is_value e (text d e) = j1.run ∙ j2.run ∙ j3.run ∙ j4.run in
        let size : capped (decimal_of (capped (decimal_of 0 W)) F) ≡ capped (decimal_of 0 (W ++ F)) =
        held (decimal_of 0 W) F ∙ ap capped (sym (decimal_append W F 0)) in
        let formed : (eqb (run_of is_value e (text d e)) e && (ltb 0 (length W) || ltb 0 (length F)))
        ≡ (eqb (length (run_bytes is_value (text d e))) 0 && ltb 0 (length (W ++ F))) =
        rw (run_empty e (from_text d e), some_digit W F) in
        rw j1.rest (rw (← digits_there (text d m), j2.rest) (rw j3.rest (rw (← digits_there (text d o), j4.rest)
        (rw (← a1, ← a2, run, zero-add (length W), zero-add (length F)) (rw (size, formed))))))

    size_says : value_of d m e ≡ (amount_read n end (run_bytes is_value (text d n))).size
    unfolding amount_read
    size_says =
        let j1 = mark_joins 45 minus_value (from_text d n) refl in
        let j2 = digits_joins (from_text d m) refl in
        let j3 = mark_joins 46 point_value (from_text d k) refl in
        rw j1.rest (rw (← digits_there (text d m), j2.rest) (rw j3.rest (rw (← digits_there (text d o)) says)))

    starts : n ≤ (amount_read n end (run_bytes is_value (text d n))).place
    unfolding amount_read
    starts = omega arith

    ends : (amount_read n end (run_bytes is_value (text d n))).place ≤ end
    unfolding amount_read
    ends = run_ahead d is_value (from_text d n)

    pub value_on_lem : Valued d n (value_here d (Ok n)) (amount d n)
    unfolding value_here of_value amount
    value_on_lem = rw (value_is) (rw (run_empty n (from_text d n)) (by (eqb (length (run_bytes is_value (text d n))) 0))) where
      by : (q : Bool) → Valued d n
          (cond q (Err (fault 2 n)) (Ok (written (amount_read n end (run_bytes is_value (text d n))) m e end)))
          (cond q (Not (fault 2 n)) (Is (amount_read n end (run_bytes is_value (text d n))) end))
      by true = unvalued
      by false = valued size_says starts ends
