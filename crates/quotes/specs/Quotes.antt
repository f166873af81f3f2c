-- Bytes that are marks, and stretches with none.
use Rattle.std.specs.Prelude.{◌≡◌, refl, Bool, true, false, ◌||◌, List, ℕ, zero, suc, ◌+◌, ◌-◌, ◌≤◌, ◌<◌, eqb, length, get_or}
use Rattle.std.proofs.Common.{sym, ap, ◌∙◌, ⊎_elim, arith}
use Rattle.below.specs.rule.Below.{any_below}
use Rattle.below.specs.Below.{any_none, any_next, any_holds, lt_or_le}

-- a byte is one of three
abbrev pub is_mark : ℕ → ℕ → ℕ → ℕ → Bool
is_mark x y z b = eqb b x || (eqb b y || eqb b z)

-- byte i is a mark
abbrev pub mark_at : (ℕ → Bool) → List ℕ → ℕ → Bool
mark_at f s i = f (get_or s i 0)

-- one of the n bytes from i on is
unfoldable pub mark_among : (ℕ → Bool) → List ℕ → ℕ → ℕ → Bool
mark_among f s i n = any_below n (λ k. mark_at f s (i + k))

-- a place from `from` on, with bytes of s that are no marks between
pub record Unmarked (f : ℕ → Bool) (s : List ℕ) (from to : ℕ) : Type 0 where
  pub on : from ≤ to
  pub within : (j : ℕ) → from ≤ j → j < to → j < length s
  pub plain : (j : ℕ) → from ≤ j → j < to → mark_at f s j ≡ false

-- ---- laws
pub among_none : (f : ℕ → Bool) (s : List ℕ) (i : ℕ) → mark_among f s i 0 ≡ false
unfolding mark_among
among_none f s i = any_none (λ k. mark_at f s (i + k))

pub among_more : (f : ℕ → Bool) (s : List ℕ) (i n : ℕ) (b : Bool) → b ≡ mark_among f s i n
    → (b || mark_at f s (i + n)) ≡ mark_among f s i (n + 1)
unfolding mark_among
among_more f s i n b e = ap (λ x. x || mark_at f s (i + n)) e ∙ sym (any_next (λ k. mark_at f s (i + k)) n)

-- one more byte, where the marks are looked for each by itself
pub among_three : (x y z : ℕ) (s : List ℕ) (i n : ℕ) (a b c : Bool) → (a || (b || c)) ≡ mark_among (is_mark x y z) s i n
    → let k = get_or s (i + n) 0 in ((a || eqb k x) || ((b || eqb k y) || (c || eqb k z))) ≡ mark_among (is_mark x y z) s i (n + 1)
among_three x y z s i n a b c e =
    let k = get_or s (i + n) 0 in
    by a b c (eqb k x) (eqb k y) (eqb k z) ∙ among_more (is_mark x y z) s i n (a || (b || c)) e where
      by : (a b c p q r : Bool) → ((a || p) || ((b || q) || (c || r))) ≡ ((a || (b || c)) || (p || (q || r)))
      by true b c p q r = refl
      by false true c true q r = refl
      by false false true true q r = refl
      by false false false true q r = refl
      by false true c false q r = refl
      by false false true false true r = refl
      by false false false false true r = refl
      by false false c false false r = refl

pub unmarked_none : (f : ℕ → Bool) (s : List ℕ) (from : ℕ) → Unmarked f s from from
unmarked_none f s from = record { on = omega arith; within = λ j a b. absurd (omega arith); plain = λ j a b. absurd (omega arith) }

failed : (b : Bool) → (b ≡ true → false ≡ true) → b ≡ false
failed true g = sym (g refl)
failed false g = refl

-- none among n bytes: none at any of them
pub none_at : (f : ℕ → Bool) (s : List ℕ) (i n : ℕ) → mark_among f s i n ≡ false → (j : ℕ) → i ≤ j → j < i + n → mark_at f s j ≡ false
unfolding mark_among
none_at f s i n e j a b =
    let q : i + (j - i) ≡ j = omega arith in
    failed (mark_at f s j) (λ t. sym e ∙ any_holds (λ k. mark_at f s (i + k)) n (j - i) (omega arith) (rw q t))

-- as far as n bytes on, if none is among them
pub unmarked_more : (f : ℕ → Bool) (s : List ℕ) (from i n : ℕ) → Unmarked f s from i → mark_among f s i n ≡ false → i + n ≤ length s
    → Unmarked f s from (i + n)
unmarked_more f s from i n c e h = record {
  on = omega (arith, c.on);
  within = λ j a b. omega arith;
  plain = λ j a b. ⊎_elim (λ l. c.plain j a l) (λ l. none_at f s i n e j l b) (lt_or_le j i);
}

-- one byte on
pub unmarked_next : (f : ℕ → Bool) (s : List ℕ) (from i : ℕ) → Unmarked f s from i → mark_at f s i ≡ false → i < length s
    → Unmarked f s from (i + 1)
unmarked_next f s from i c e h = unmarked_more f s from i 1 c (sym (among_more f s i 0 false (sym (among_none f s i))) ∙ rw (i_zero i) e)
    (omega arith)
  where
    i_zero : (i : ℕ) → i + 0 ≡ i
    i_zero i = omega arith

-- what no byte but a mark changes is the same at both ends
module _ {A : Type 0} (f : ℕ → Bool) (s : List ℕ) (g : ℕ → A) (step : (i : ℕ) → i < length s → mark_at f s i ≡ false → g i ≡ g (i + 1))
  where
    same_over : (n i to : ℕ) → i + n ≡ to → Unmarked f s i to → g i ≡ g to
    same_over zero i to q u = let e : i ≡ to = omega arith in rw e
    same_over (suc n) i to q u =
        step i (u.within i (omega arith) (omega arith)) (u.plain i (omega arith) (omega arith)) ∙
        same_over n (i + 1) to (omega arith) (record {
          on = omega arith;
          within = λ j a b. u.within j (omega arith) b;
          plain = λ j a b. u.plain j (omega arith) b;
        })

    pub unmarked_same : (i to : ℕ) → Unmarked f s i to → g i ≡ g to
    unmarked_same i to u = same_over (to - i) i to (omega (arith, u.on)) u
