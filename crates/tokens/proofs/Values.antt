-- What a value's digits say, held at 10 ^ 15, is the number that stands between the places of its digits, the point left out.
use mathlib.Core.Path.{◌≡◌, refl, ◌∙◌, sym, ap}
use mathlib.Core.Bool.{Bool, true, false, cond}
use mathlib.Core.List.{List, [], ◌∷◌, ◌++◌, append-nil}
use Prim.Native.Nat.{ℕ, ◌+◌, ◌*◌, ◌-◌, ◌≤◌}
use native.Mathlib.Omega.{arith}
use lib.Dec.{eqb, leb}
use borrow.Author.Tests.{eqb-true, lt-leb, le-leb}
use Rattle.ascii.specs.rule.Class.{class_of}
use Rattle.scan.specs.rule.Text.{Text, sign, text}
use Rattle.scan.specs.rule.Number.{is_digit, run_of, run_bytes, decimal_of}
use Rattle.scan.specs.Number.{capped, digits_from}
use Rattle.scan.specs.Order.{digits_to, value_of}
use Rattle.scan.proofs.Texts.{From, at_stop, at_sign, from_text}
use Rattle.scan.proofs.Runs.{held}
use Rattle.scan.proofs.Orders.{run_ahead}
use Rattle.tokens.specs.declared.Mark.{Mark}
use Rattle.tokens.specs.Token.{mark_of, value_at}

dot : is_digit 46 ≡ false
unfolding is_digit class_of
dot = refl

module _ (d : List ℕ) (e : ℕ) where
  -- digits up to e: a run of them, and then those from its end on
  digits_split : {n : ℕ} {t : Text} → From d n t → t ≡ text d n → run_of is_digit n t ≤ e → digits_to e t ≡ run_bytes is_digit t
      ++ digits_to e (text d (run_of is_digit n t))
  unfolding digits_to run_bytes run_of
  digits_split at_stop q h = ap (digits_to e) q
  digits_split {n} (at_sign {p = p} {b = b} {u = u} g w i r) q h = by (is_digit b) refl (run_ahead d is_digit r) (digits_split r i) q h
    where
      by : (x : Bool) → is_digit b ≡ x → p + 1 ≤ run_of is_digit (p + 1) u
          → (run_of is_digit (p + 1) u ≤ e → digits_to e u ≡ run_bytes is_digit u ++ digits_to e (text d (run_of is_digit (p + 1) u)))
          → sign p b u
          ≡ text d n → cond x (run_of is_digit (p + 1) u) n ≤ e → cond (leb e p) [] (cond (is_digit b) (b ∷ digits_to e u) (digits_to e u))
          ≡ cond x (b ∷ run_bytes is_digit u) [] ++ digits_to e (text d (cond x (run_of is_digit (p + 1) u) n))
      by true f k ih q h = rw (lt-leb e p (omega arith), f, ih h)
      by false f k ih q h = ap (digits_to e) q

  -- no digit stands before e from e on
  none_left : {t : Text} → From d e t → digits_to e t ≡ []
  unfolding digits_to
  none_left at_stop = refl
  none_left (at_sign {p = p} g w i r) = rw (le-leb e p g)

  -- a point is no digit
  past_point : (n : ℕ) {t : Text} → From d n t → t ≡ text d n → (mark_of n 46 t).next ≤ e → digits_to e t
      ≡ digits_to e (text d (mark_of n 46 t).next)
  unfolding mark_of digits_to
  past_point n at_stop q h = ap (digits_to e) q
  past_point n (at_sign {p = p} {b = b} {u = u} g w i r) q h = by (eqb b 46) refl h where
    by : (x : Bool) → eqb b 46 ≡ x → (cond {A = Mark} x (record { there = true; next = p + 1 }) (record { there = false; next = n })).next
        ≤ e → digits_to e (sign p b u) ≡ digits_to e
        (text d (cond {A = Mark} x (record { there = true; next = p + 1 }) (record { there = false; next = n })).next)
    by true f h = rw (eqb-true b 46 f, lt-leb e p (omega arith), dot, i)
    by false f h = ap (digits_to e) q

mark_ahead : (d : List ℕ) (n b : ℕ) {t : Text} → From d n t → n ≤ (mark_of n b t).next
unfolding mark_of
mark_ahead d n b at_stop = omega arith
mark_ahead d n b (at_sign {p = p} {b = c} g w i r) = by (eqb c b) where
  by : (x : Bool) → n ≤ (cond {A = Mark} x (record { there = true; next = p + 1 }) (record { there = false; next = n })).next
  by true = omega arith
  by false = omega arith

decimal_append : (s t : List ℕ) (n : ℕ) → decimal_of n (s ++ t) ≡ decimal_of (decimal_of n s) t
unfolding decimal_of
decimal_append [] t n = refl
decimal_append (b ∷ s) t n = decimal_append s t (n * 10 + (b - 48))

-- two runs of digits, with a point between them or none
runs : (d : List ℕ) (m : ℕ) →
    let k = run_of is_digit m (text d m) in
    let o = (mark_of k 46 (text d k)).next in
    let e = run_of is_digit o (text d o) in
    capped (decimal_of (capped (decimal_of 0 (run_bytes is_digit (text d m)))) (run_bytes is_digit (text d o))) ≡ capped (value_of d m e)
unfolding value_of
runs d m =
    let k = run_of is_digit m (text d m) in
    let o = (mark_of k 46 (text d k)).next in
    let e = run_of is_digit o (text d o) in
    let w = run_bytes is_digit (text d m) in
    let f = run_bytes is_digit (text d o) in
    let ke : k ≤ o = mark_ahead d k 46 (from_text d k) in
    let oe : o ≤ e = run_ahead d is_digit (from_text d o) in
    let s : digits_to e (text d m) ≡ w ++ digits_to e (text d k) = digits_split d e (from_text d m) refl (omega arith) in
    let p : digits_to e (text d k) ≡ digits_to e (text d o) = past_point d e k (from_text d k) refl oe in
    let t : digits_to e (text d o) ≡ f ++ digits_to e (text d e) = digits_split d e (from_text d o) refl (omega arith) in
    let z : digits_to e (text d e) ≡ [] = none_left d e (from_text d e) in
    let a : digits_to e (text d m) ≡ w ++ f = rw (s, p, t, z) (ap (λ l. w ++ l) (append-nil f)) in
    held_two w f ∙ ap capped (sym (ap (decimal_of 0) a ∙ decimal_append w f 0))
  where
    held_two : (w f : List ℕ) → capped (decimal_of (capped (decimal_of 0 w)) f) ≡ capped (decimal_of (decimal_of 0 w) f)
    held_two w f = held (decimal_of 0 w) f

-- VALUE: the digits of a value say the number between their places
pub value_true : (d : List ℕ) (at : ℕ) → (value_at d at).size ≡ capped (value_of d (value_at d at).first (value_at d at).last)
unfolding value_at digits_from
value_true d at = runs d (mark_of at 45 (text d at)).next
