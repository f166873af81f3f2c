-- Stretches without a byte below 32: what follows from rule/Lows.antt, and what the code keeps.
use Rattle.std.specs.Prelude.{◌≡◌, refl, Bool, true, false, ◌||◌, List, ℕ, ◌+◌, ◌-◌, ◌≤◌, ◌<◌, length}
use Rattle.std.proofs.Common.{sym, ap, ◌∙◌, ⊎_elim, arith}
use Rattle.below.specs.rule.Below.{any_below}
use Rattle.below.specs.Below.{any_none, any_next, any_holds, lt_or_le}
use Rattle.lows.specs.rule.Lows.{low_at}

-- one of the n bytes from i on is
unfoldable pub low_among : List ℕ → ℕ → ℕ → Bool
low_among s i n = any_below n (λ k. low_at s (i + k))

-- a place of s from `from` on, with no byte below 32 between
pub record Clear (s : List ℕ) (from to : ℕ) : Type 0 where
  pub on : from ≤ to
  pub within : to ≤ length s
  pub plain : (j : ℕ) → from ≤ j → j < to → low_at s j ≡ false

-- ---- laws
pub among_none : (s : List ℕ) (i : ℕ) → low_among s i 0 ≡ false
unfolding low_among
among_none s i = any_none (λ k. low_at s (i + k))

pub among_more : (s : List ℕ) (i n : ℕ) (b : Bool) → b ≡ low_among s i n → (b || low_at s (i + n)) ≡ low_among s i (n + 1)
unfolding low_among
among_more s i n b e = ap (λ x. x || low_at s (i + n)) e ∙ sym (any_next (λ k. low_at s (i + k)) n)

pub clear_none : (s : List ℕ) (from : ℕ) → from ≤ length s → Clear s from from
clear_none s from h = record { on = omega arith; within = h; plain = λ j a b. absurd (omega arith) }

failed : (b : Bool) → (b ≡ true → false ≡ true) → b ≡ false
failed true g = sym (g refl)
failed false g = refl

-- none among n bytes: none at any of them
pub none_at : (s : List ℕ) (i n : ℕ) → low_among s i n ≡ false → (j : ℕ) → i ≤ j → j < i + n → low_at s j ≡ false
unfolding low_among
none_at s i n e j a b =
    let q : i + (j - i) ≡ j = omega arith in
    failed (low_at s j) (λ t. sym e ∙ any_holds (λ k. low_at s (i + k)) n (j - i) (omega arith) (rw q t))

-- as far as n bytes on, if none is among them
pub clear_more : (s : List ℕ) (from i n : ℕ) → Clear s from i → low_among s i n ≡ false → i + n ≤ length s → Clear s from (i + n)
clear_more s from i n c e h = record {
  on = omega (arith, c.on);
  within = h;
  plain = λ j a b. ⊎_elim (λ l. c.plain j a l) (λ l. none_at s i n e j l b) (lt_or_le j i);
}

-- one byte more, if it is not below 32
pub clear_next : (s : List ℕ) (from i : ℕ) → Clear s from i → low_at s i ≡ false → i < length s → Clear s from (i + 1)
clear_next s from i c e h = record {
  on = omega (arith, c.on);
  within = omega arith;
  plain = λ j a b. ⊎_elim (λ l. c.plain j a l) (λ l. let q : j ≡ i = omega arith in rw q e) (lt_or_le j i);
}

-- as far as the last of n bytes, if none is among them
pub clear_last : (s : List ℕ) (from i last n : ℕ) → Clear s from i → low_among s last n ≡ false → last ≤ i → from ≤ last + n
    → last + n ≤ length s → Clear s from (last + n)
clear_last s from i last n c e h f l = record {
  on = f;
  within = l;
  plain = λ j a b. ⊎_elim (λ m. c.plain j a m) (λ m. none_at s last n e j (omega arith) b) (lt_or_le j i);
}

-- to the end, if none is among the last n bytes
pub clear_end : (s : List ℕ) (from i last n : ℕ) → Clear s from i → low_among s last n ≡ false → last ≤ i → last + n ≡ length s
    → Clear s from (length s)
clear_end s from i last n c e h l = rw l at (clear_last s from i last n c e h (omega (arith, c.on, c.within)) (omega arith))
