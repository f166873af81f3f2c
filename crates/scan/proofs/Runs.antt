-- A run at a byte that goes on, at one that does not, and at the end; and a run of digits, by the number that it says.
use mathlib.Core.Path.{◌≡◌, refl, sym, ◌∙◌}
use mathlib.Core.Bool.{Bool, true, false, cond}
use mathlib.Core.List.{List, [], ◌∷◌}
use Prim.Native.Nat.{ℕ, ◌+◌, ◌*◌, ◌-◌, ◌≤◌}
use native.Mathlib.Omega.{arith}
use lib.Dec.{ltb}
use borrow.Author.Tests.{lt-ltb, le-ltb, ltb-true, ltb-false}
use Rattle.scan.specs.rule.Text.{Text, stop, sign}
use Rattle.scan.specs.declared.Digits.{Digits}
use Rattle.scan.specs.rule.Number.{run_of, run_bytes, decimal_of, is_digit}
use Rattle.scan.specs.Number.{capped, digits_from}
use Rattle.scan.specs.Number.{push_of}

module _ (f : ℕ → Bool) (n : ℕ) {t : Text} where
  pub run_next : {p b : ℕ} {u : Text} → t ≡ sign p b u → f b ≡ true → run_of f n t ≡ run_of f (p + 1) u
  unfolding run_of
  run_next e q = rw (e, q)

  pub run_over : {p b : ℕ} {u : Text} → t ≡ sign p b u → f b ≡ false → run_of f n t ≡ n
  unfolding run_of
  run_over e q = rw (e, q)

  pub run_end : {p : ℕ} → t ≡ stop p → run_of f n t ≡ n
  unfolding run_of
  run_end e = rw e

-- a number that is held at the cap before its last digits is held after them
pub held : (v : ℕ) (s : List ℕ) → capped (decimal_of (capped v) s) ≡ capped (decimal_of v s)
unfolding decimal_of
held v [] = by (ltb 1000000000000000 v) refl where
  by : (q : Bool) → ltb 1000000000000000 v ≡ q → capped (cond q 1000000000000000 v) ≡ cond q 1000000000000000 v
  by true e = refl
  by false e = rw e
held v (b ∷ s) = by (ltb 1000000000000000 v) refl (held (10000000000000000 + (b - 48)) s) (held (v * 10 + (b - 48)) s) where
  by : (q : Bool) → ltb 1000000000000000 v ≡ q → capped (decimal_of (capped (10000000000000000 + (b - 48))) s)
      ≡ capped (decimal_of (10000000000000000 + (b - 48)) s) → capped (decimal_of (capped (v * 10 + (b - 48))) s)
      ≡ capped (decimal_of (v * 10 + (b - 48)) s) → capped (decimal_of (cond q 1000000000000000 v * 10 + (b - 48)) s)
      ≡ capped (decimal_of (v * 10 + (b - 48)) s)
  by true e i j =
      let h = ltb-true 1000000000000000 v e in
      sym i
      ∙ rw (lt-ltb 1000000000000000 (10000000000000000 + (b - 48)) (omega arith))
      (rw (lt-ltb 1000000000000000 (v * 10 + (b - 48)) (omega arith)) at j)
  by false e i j = refl

pub low : (v : ℕ) → v ≤ 1000000000000000 → capped v ≡ v
low v h = rw (le-ltb 1000000000000000 v h)

same : (s s' c c' n : ℕ) → s ≡ s' → c ≡ c' → ◌≡◌ {A = Digits} (record { size = s; count = c; next = n })
    (record { size = s'; count = c'; next = n })
same s s' c c' n e f = rw (e, f)

module _ (v c n : ℕ) {t : Text} where
  pub digits_next : {p b : ℕ} {u : Text} → t ≡ sign p b u → is_digit b ≡ true → digits_from v c n t
      ≡ digits_from (push_of v b) (c + 1) (p + 1) u
  unfolding digits_from push_of run_bytes decimal_of run_of
  digits_next {b = b} {u = u} e q = rw (e, q) (same _ _ _ _ _ (sym (held (v * 10 + (b - 48)) (run_bytes is_digit u))) (omega arith))

  pub digits_over : {p b : ℕ} {u : Text} → t ≡ sign p b u → is_digit b ≡ false → v ≤ 1000000000000000 → digits_from v c n t
      ≡ record { size = v; count = c; next = n }
  unfolding digits_from run_bytes decimal_of run_of
  digits_over e q h = rw (e, q) (same _ _ _ _ _ (low v h) (omega arith))

  pub digits_end : {p : ℕ} → t ≡ stop p → v ≤ 1000000000000000 → digits_from v c n t ≡ record { size = v; count = c; next = n }
  unfolding digits_from run_bytes decimal_of run_of
  digits_end e h = rw e (same _ _ _ _ _ (low v h) (omega arith))

cap_holds : (n : ℕ) → capped n ≤ 1000000000000000
cap_holds n = by (ltb 1000000000000000 n) refl where
  by : (q : Bool) → ltb 1000000000000000 n ≡ q → cond q 1000000000000000 n ≤ 1000000000000000
  by true e = omega arith
  by false e = ltb-false 1000000000000000 n e

pub digits_held : (v c n : ℕ) (t : Text) → (digits_from v c n t).size ≤ 1000000000000000
unfolding digits_from
digits_held v c n t = cap_holds (decimal_of v (run_bytes is_digit t))
