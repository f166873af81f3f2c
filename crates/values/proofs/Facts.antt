-- Facts of values: sizes, signs, repeats and marks.
use mathlib.Core.Path.{◌≡◌, refl, ◌∙◌, sym, ap}
use mathlib.Core.Logic.{◌⊎◌, ◌≢◌, ⊎_elim}
use mathlib.Core.Bool.{Bool, true, false, cond, not, ◌&&◌, ◌||◌}
use mathlib.Core.List.{List, []}
use Prim.Native.Nat.{ℕ, zero, suc, ◌+◌, ◌*◌, ◌-◌, ◌%◌, ◌≤◌, ◌<◌}
use native.Mathlib.Nat.{eq-or-lt_of_le, mod-lt}
use native.Mathlib.Omega.{arith}
use lib.Dec.{ltb, eqb}
use lib.IntN.{ℤ, pos, neg_ℤ}
use lib.Signed.{lt_z}
use lib.ListN.{length, get_or, set}
use lib.Seq.{get_or-set_same, get_or-set_other}
use borrow.Author.Tests.{ltb-true, ltb-false, lt-ltb, le-ltb, le-leb, eqb-true, eqb-false}
use Rattle.below.specs.Below.{same_bool, holds_not, any_none, any_next, any_fails, any_holds, any_some}
use Rattle.cells.specs.rule.Cell.{cell, number_of, signed_of, eq_z}
use Rattle.cells.specs.Cell.{same_true}
use Rattle.scan.specs.rule.Text.{Text, stop, sign, text}
use Rattle.scan.specs.rule.Number.{decimal_of}
use Rattle.scan.specs.Order.{digits_to, value_of}
use Rattle.tokens.specs.declared.Value.{Value}
use Rattle.values.specs.declared.Block.{Block}
use Rattle.values.specs.Value.{form_of, large_of, true_of}
use Rattle.values.specs.Line.{repeated_in, line_fault}
use Rattle.values.specs.Room.{room_at, slot_of, Marked}

pub or_none : (a b : Bool) → (a || b) ≡ false → a ≡ false
or_none true b e = holds_not refl e
or_none false b e = refl

pub or_neither : (a b : Bool) → (a || b) ≡ false → b ≡ false
or_neither true b e = holds_not refl e
or_neither false b e = e

pub slot_small : (z : ℤ) → slot_of z < 16384
unfolding slot_of
slot_small z =
    let l : (signed_of z).size % 16381 < 16381 = mod-lt (signed_of z).size (omega arith) in
    omega arith

pub large_size : (quantity : Bool) (v : Value) → large_of quantity v ≡ false → v.size ≤ 1000000000000000
unfolding large_of
large_size true v e = let h = ltb-false 999999999999999 v.size (or_none (ltb 999999999999999 v.size) (ltb 9 v.decimals) e) in
    omega arith
large_size false v e = let h = ltb-false 9999 v.size e in omega arith

-- nothing stands from 0 to 0
empty_to : (t : Text) → digits_to 0 t ≡ []
unfolding digits_to
empty_to (stop p) = refl
empty_to (sign p b t) = rw (le-leb 0 p (omega arith))

pub nothing_says : (d : List ℕ) → value_of d 0 0 ≡ 0
unfolding value_of decimal_of
nothing_says d = rw (empty_to (text d 0))

-- ---- two signs
both_minus : (m n : ℕ) → lt_z (neg_ℤ (pos m)) (neg_ℤ (pos n)) ≡ ltb n m
both_minus zero zero = refl
both_minus zero (suc n) = sym (le-ltb (suc n) 0 (omega arith))
both_minus (suc m) zero = sym (lt-ltb 0 (suc m) (omega arith))
both_minus (suc m) (suc n) =
    same_bool (ltb n m) (ltb (suc n) (suc m))
    (λ e. let h = ltb-true n m e in lt-ltb (suc n) (suc m) (omega arith))
    (λ e. let h = ltb-true (suc n) (suc m) e in lt-ltb n m (omega arith))

up_minus : (m n : ℕ) → lt_z (pos m) (neg_ℤ (pos n)) ≡ false
up_minus m zero = le-ltb m 0 (omega arith)
up_minus m (suc n) = refl

or_true : (b : Bool) → true ≡ (b || true)
or_true true = refl
or_true false = refl

or_false : (b : Bool) → b ≡ (b || false)
or_false true = refl
or_false false = refl

minus_up : (m n : ℕ) → lt_z (neg_ℤ (pos m)) (pos n) ≡ (ltb 0 n || ltb 0 m)
minus_up zero n = or_false (ltb 0 n)
minus_up (suc m) n = rw (lt-ltb 0 (suc m) (omega arith)) (or_true (ltb 0 n))

module _ (d : List ℕ) (a b : Value) where
  abbrev said_a : ℕ
  said_a = value_of d a.first a.last

  abbrev said_b : ℕ
  said_b = value_of d b.first b.last

  pub less_both : {r : Bool} → a.minus ≡ true → b.minus ≡ true → r ≡ ltb said_a said_b → r ≡ lt_z (true_of d b) (true_of d a)
  unfolding true_of number_of
  less_both e f g = g ∙ rw (e, f) (sym (both_minus said_b said_a))

  pub less_never : a.minus ≡ true → b.minus ≡ false → false ≡ lt_z (true_of d b) (true_of d a)
  unfolding true_of number_of
  less_never e f = rw (e, f) (sym (up_minus said_b said_a))

  pub less_some : {r s : Bool} → a.minus ≡ false → b.minus ≡ true → r ≡ ltb (value_of d 0 0) said_a → s ≡ ltb (value_of d 0 0) said_b
      → (r || s) ≡ lt_z (true_of d b) (true_of d a)
  unfolding true_of number_of
  less_some e f g h = rw (g, h, nothing_says d, e, f) (sym (minus_up said_b said_a))

  pub less_plain : {r : Bool} → a.minus ≡ false → b.minus ≡ false → r ≡ ltb said_b said_a → r ≡ lt_z (true_of d b) (true_of d a)
  unfolding true_of number_of
  less_plain e f g = g ∙ rw (e, f)

-- ---- repeats
module _ (room : List ℤ) (first last : ℕ) (z : ℤ) where
  -- lines that do not say it
  pub none_until : (i : ℕ) → first ≤ i → repeated_in (room_at room first) (i - first) z ≡ false → eq_z (cell room (4 * i)) z ≡ false
      → repeated_in (room_at room first) ((i + 1) - first) z ≡ false
  unfolding repeated_in room_at
  none_until i h e f =
      let n : (i + 1) - first ≡ (i - first) + 1 = omega arith in
      let k : first + (i - first) ≡ i = omega arith in
      rw (n, any_next (λ i. eq_z (room_at room first i) z) (i - first), e, k, f)

  -- a line that says it
  pub one_says : (i : ℕ) → first ≤ i → i < last → eq_z (cell room (4 * i)) z ≡ true → true
      ≡ repeated_in (room_at room first) (last - first) z
  unfolding repeated_in room_at
  one_says i h l f =
      let k : first + (i - first) ≡ i = omega arith in
      sym (any_holds (λ i. eq_z (room_at room first i) z) (last - first) (i - first) (omega arith) (rw k f))

pub none_yet : (room : List ℤ) (first : ℕ) (z : ℤ) → repeated_in (room_at room first) (first - first) z ≡ false
unfolding repeated_in
none_yet room first z = let n : first - first ≡ 0 = omega arith in rw n (any_none (λ i. eq_z (room_at room first i) z))

-- where a number's slot has another mark, no line says it
pub none_marked : (f : ℕ → ℤ) (n stamp : ℕ) (marks : List ℕ) (z : ℤ) (slot : ℕ) → Marked f n stamp marks → slot ≡ slot_of z
    → get_or marks slot 0 ≢ stamp → false ≡ repeated_in f n z
unfolding repeated_in
none_marked f n stamp marks z slot m e g = sym (any_fails (λ i. eq_z (f i) z) n (λ i h. by i h (eq_z (f i) z) refl)) where
  by : (i : ℕ) → i < n → (p : Bool) → eq_z (f i) z ≡ p → p ≡ false
  by i h false q = refl
  by i h true q = absurd (g (ap (λ (k : ℕ). get_or marks k 0) (e ∙ ap slot_of (sym (same_true (f i) z q))) ∙ m.left i h))

-- a test that looks at the same numbers
pub repeated_alike : (f g : ℕ → ℤ) (n : ℕ) (z : ℤ) → ((i : ℕ) → i < n → f i ≡ g i) → repeated_in f n z ≡ repeated_in g n z
unfolding repeated_in
repeated_alike f g n z h =
    same_bool _ _
    (λ e. any_some (λ i. eq_z (f i) z) n e (λ i k q. any_holds (λ i. eq_z (g i) z) n i k (ap (λ (x : ℤ). eq_z x z) (sym (h i k)) ∙ q)))
    (λ e. any_some (λ i. eq_z (g i) z) n e (λ i k q. any_holds (λ i. eq_z (f i) z) n i k (ap (λ (x : ℤ). eq_z x z) (h i k) ∙ q)))

-- one mark more
pub marked_more : (f : ℕ → ℤ) (n stamp : ℕ) (marks : List ℕ) (z : ℤ) → length marks ≡ 16384 → z ≡ f n → Marked f n stamp marks
    → Marked f (n + 1) stamp (set marks (slot_of z) stamp)
marked_more f n stamp marks z h e m = record { left = λ i k. go i (eqb (slot_of (f i)) (slot_of z)) refl (each i k) }
  where
    each : (i : ℕ) → i < n + 1 → (i ≡ n) ⊎ (i < n)
    each i k = let g : i ≤ n = omega arith in eq-or-lt_of_le g

    go : (i : ℕ) (b : Bool) → eqb (slot_of (f i)) (slot_of z) ≡ b → (i ≡ n) ⊎ (i < n)
        → get_or (set marks (slot_of z) stamp) (slot_of (f i)) 0
        ≡ stamp
    go i true q c = rw (eqb-true (slot_of (f i)) (slot_of z) q) (get_or-set_same marks (slot_of z) stamp 0 (omega (arith, h, slot_small z)))
    go i false q c =
        ⊎_elim (λ p. absurd (eqb-false (slot_of (f i)) (slot_of z) q (ap (λ (k : ℕ). slot_of (f k)) p ∙ ap slot_of (sym e))))
        (λ l. get_or-set_other marks (slot_of z) (slot_of (f i)) stamp 0 (eqb-false (slot_of (f i)) (slot_of z) q) ∙ m.left i l)
        c

-- a line with nothing wrong has form, and is not too large
pub sound_value : (quantity : Bool) (b : Block) (v : Value) → line_fault quantity b v ≡ 0
    → (form_of quantity v ≡ true) × (large_of quantity v ≡ false) × (b.known ≡ true → v.decimals ≡ b.decimals)
unfolding line_fault
sound_value quantity b v = by (form_of quantity v) b.known (eqb v.decimals b.decimals) (large_of quantity v) refl where
  by : (x k q z : Bool) → eqb v.decimals b.decimals ≡ q → ◌≡◌ {A = ℕ} (cond x (cond (k && not q) 6 (cond z 8 0)) 6) 0
      → (x ≡ true) × (z ≡ false) × (k ≡ true → v.decimals ≡ b.decimals)
  by false k q z f e = absurd (omega arith)
  by true true false z f e = absurd (omega arith)
  by true true true true f e = absurd (omega arith)
  by true true true false f e = (refl, refl, λ g. eqb-true v.decimals b.decimals f)
  by true false q true f e = absurd (omega arith)
  by true false q false f e = (refl, refl, λ g. holds_not g refl)
