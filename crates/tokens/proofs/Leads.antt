-- Digits that stand side by side, and a value that is nothing else.
use Rattle.std.specs.Prelude.{Ok}
use mathlib.Core.Path.{◌≡◌, refl, ◌∙◌, sym, ap}
use mathlib.Core.Bool.{Bool, true, false, cond, not, ◌||◌}
use mathlib.Core.List.{List, [], ◌∷◌}
use Prim.Native.Nat.{ℕ, ◌+◌, ◌*◌, ◌-◌, ◌≤◌, ◌<◌}
use native.Mathlib.Omega.{arith}
use lib.Dec.{eqb}
use lib.ListN.{length, get_or}
use borrow.Author.Tests.{eq-eqb, ne_eqb, eqb-true, lt-ltb, le-ltb, le-leb, lt-leb}
use Rattle.ascii.specs.rule.Class.{class_of, within}
use Rattle.scan.specs.rule.Text.{Text, stop, sign, text}
use Rattle.scan.specs.rule.Number.{is_digit, is_value, run_of, run_bytes}
use Rattle.scan.specs.Number.{digits_from, push_of}
use Rattle.scan.proofs.Texts.{text_dropped, text_kept, kept_byte}
use Rattle.scan.proofs.Runs.{low, digits_next, digits_over, digits_end}
use Rattle.tokens.specs.declared.Mark.{Mark}
use Rattle.tokens.specs.Over.{over_of}
use Rattle.tokens.proofs.Gaps.{low_dropped}
use Rattle.tokens.specs.Token.{mark_of, value_at, of_digits, number_here, of_value, value_here}

-- ---- a digit more
digit_byte : (b : ℕ) → 48 ≤ b → b ≤ 57 → is_digit b ≡ true
unfolding is_digit class_of
digit_byte b l h = rw (le-ltb b 32 (omega arith), ne_eqb b 32 (λ e. omega arith), le-leb 48 b l, le-leb b 57 h)

pub lead_next : (d : List ℕ) (i v c : ℕ) → i < length d → 48 ≤ get_or d i 0 → get_or d i 0 ≤ 57 → v ≤ 99999999999999
    → digits_from v c i (text d i) ≡ digits_from (v * 10 + (get_or d i 0 - 48)) (c + 1) (i + 1) (text d (i + 1))
unfolding push_of
lead_next d i v c h l m w =
    digits_next v c i (text_kept d i h (kept_byte (get_or d i 0) (omega arith))) (digit_byte (get_or d i 0) l m)
    ∙ ap (λ k. digits_from k (c + 1) (i + 1) (text d (i + 1))) (low (v * 10 + (get_or d i 0 - 48)) (omega arith))

-- ---- where no byte of a value is next
abbrev no_mark : ℕ → Mark
no_mark n = record { there = false; next = n }

module _ (n : ℕ) where
  over_run : (t : Text) → over_of t ≡ true → run_of is_value n t ≡ n
  unfolding over_of run_of
  over_run (stop p) e = refl
  over_run (sign p b t) e = by (is_value b) e where
    by : (q : Bool) → not q ≡ true → cond q (run_of is_value (p + 1) t) n ≡ n
    by true e = let z : ◌≡◌ {A = ℕ} 0 1 = cc in absurd (omega arith)
    by false e = refl

  over_dot : (t : Text) → over_of t ≡ true → mark_of n 46 t ≡ no_mark n
  unfolding over_of mark_of is_value
  over_dot (stop p) e = refl
  over_dot (sign p b t) e = by (is_digit b) (eqb b 43) (eqb b 45) (eqb b 46) e where
    by : (x y z w : Bool) → not (x || (y || (z || w))) ≡ true → cond {A = Mark} w (record { there = true; next = p + 1 }) (no_mark n)
        ≡ no_mark n
    by x y z false e = refl
    by true y z true e = let o : ◌≡◌ {A = ℕ} 0 1 = cc in absurd (omega arith)
    by false true z true e = let o : ◌≡◌ {A = ℕ} 0 1 = cc in absurd (omega arith)
    by false false true true e = let o : ◌≡◌ {A = ℕ} 0 1 = cc in absurd (omega arith)
    by false false false true e = let o : ◌≡◌ {A = ℕ} 0 1 = cc in absurd (omega arith)

  over_digits : (v c : ℕ) (t : Text) → v ≤ 1000000000000000 → over_of t ≡ true → digits_from v c n t
      ≡ record { size = v; count = c; next = n }
  unfolding over_of is_value
  over_digits v c (stop p) h e = digits_end v c n refl h
  over_digits v c (sign p b t) h e = by (is_digit b) refl e where
    by : (x : Bool) → is_digit b ≡ x → not (x || (eqb b 43 || (eqb b 45 || eqb b 46))) ≡ true → digits_from v c n (sign p b t)
        ≡ record { size = v; count = c; next = n }
    by true f e = let o : ◌≡◌ {A = ℕ} 0 1 = cc in absurd (omega arith)
    by false f e = digits_over v c n refl f h

-- ---- where that is clear at a look: a space, or a byte above the digits, stands there or behind dropped bytes
pub space_parts : (b : ℕ) → b ≡ 32 → is_value b ≡ false
unfolding is_value is_digit class_of
space_parts b e = rw e

pub above_parts : (b : ℕ) → 57 < b → is_value b ≡ false
unfolding is_value is_digit class_of
above_parts b h = rw (
  le-ltb b 32 (omega arith),
  ne_eqb b 32 (λ e. omega arith),
  le-leb 48 b (omega arith),
  lt-leb b 57 h,
  ne_eqb b 43 (λ e. omega arith),
  ne_eqb b 45 (λ e. omega arith),
  ne_eqb b 46 (λ e. omega arith),
) (by (within 65 90 b || within 97 122 b) (eqb b 34) (eqb b 123 || eqb b 125) (eqb b 60 || eqb b 62)) where
  by : (r s t u : Bool) → (eqb (cond r 3 (cond s 4 (cond t 5 (cond u 6 7)))) 2 || false) ≡ false
  by true s t u = refl
  by false true t u = refl
  by false false true u = refl
  by false false false true = refl
  by false false false false = refl

module _ (d : List ℕ) (n : ℕ) (h : n < length d) where
  pub over_parted : 32 ≤ get_or d n 0 → is_value (get_or d n 0) ≡ false → over_of (text d n) ≡ true
  unfolding over_of
  over_parted l e = rw (text_kept d n h (kept_byte (get_or d n 0) l), e)

  pub over_dropped : get_or d n 0 < 32 → over_of (text d (n + 1)) ≡ true → over_of (text d n) ≡ true
  over_dropped l e = rw (text_dropped d n h (low_dropped (get_or d n 0) l)) e

-- ---- a digit is no minus
minus : is_digit 45 ≡ false
unfolding is_digit class_of
minus = refl

no_minus : (n : ℕ) (t : Text) → 0 < (digits_from 0 0 n t).count → mark_of n 45 t ≡ no_mark n
unfolding digits_from run_bytes mark_of
no_minus n (stop p) h = absurd (omega arith)
no_minus n (sign p b t) h = by (eqb b 45) refl (is_digit b) refl h where
  by : (x : Bool) → eqb b 45 ≡ x → (y : Bool) → is_digit b ≡ y → 0 < 0 + length (cond y (b ∷ run_bytes is_digit t) [])
      → cond {A = Mark} x (record { there = true; next = p + 1 }) (no_mark n) ≡ no_mark n
  by false e y f h = refl
  by true e true f h = let o : ◌≡◌ {A = ℕ} 0 1 = cc (sym f, ap is_digit (eqb-true b 45 e), minus) in absurd (omega arith)
  by true e false f h = absurd (omega arith)

module _ (d : List ℕ) (n e v : ℕ) (l : n < e) (w : v ≤ 1000000000000000)
    (r : digits_from 0 0 n (text d n) ≡ digits_from v (e - n) e (text d e)) (o : over_of (text d e) ≡ true) where
  whole : digits_from 0 0 n (text d n) ≡ record { size = v; count = e - n; next = e }
  whole = r ∙ over_digits e v (e - n) (text d e) w o

  some : 0 < (digits_from 0 0 n (text d n)).count
  some = rw whole (omega arith)

  -- a number
  pub lead_number : number_here d (Ok n) ≡ Ok (record { size = v; count = e - n; place = n; next = e })
  unfolding number_here of_digits
  lead_number = rw (whole, ne_eqb (e - n) 0 (λ q. omega arith))

  -- a value
  lead_value : value_at d n ≡ record {
    minus = false;
    size = v;
    whole = e - n;
    decimals = 0;
    point = false;
    formed = true;
    place = n;
    first = n;
    last = e;
    next = e;
  }
  unfolding value_at
  lead_value =
      rw (
        no_minus n (text d n) some,
        whole,
        over_dot e (text d e) o,
        over_digits e v 0 (text d e) w o,
        over_run e (text d e) o,
        eq-eqb e e refl,
        lt-ltb 0 (e - n) (omega arith),
      )

  pub lead_here : value_here d (Ok n) ≡ Ok (record
      { minus = false; size = v; whole = e - n; decimals = 0; point = false; formed = true; place = n; first = n; last = e; next = e })
  unfolding value_here of_value
  lead_here = rw (lead_value, ne_eqb e n (λ q. omega arith))
