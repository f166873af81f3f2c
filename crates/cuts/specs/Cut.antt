-- What follows from rule/Cut.antt, and what the code keeps.
use Rattle.std.specs.Prelude.{◌≡◌, Bool, true, false, cond, List, [], ◌∷◌, ℕ, zero, suc, ◌+◌, ◌-◌, ◌≤◌, ◌<◌, eqb, length, drop, get_or}
use Rattle.std.proofs.Common.{◌∙◌, ⊎_elim, arith, drop-cons, drop_of_length-le}
use Rattle.std.proofs.Math.Numerals.{add-one}
use borrow.Author.Tests.{eq-eqb, ne_eqb, ltb-false}
use Rattle.below.specs.Below.{lt_or_le}
use Rattle.lows.specs.rule.Lows.{low_at}
use Rattle.lows.specs.Lows.{Clear}
use Rattle.cuts.specs.declared.Terminator.{Terminator}
use Rattle.cuts.specs.declared.Next.TheVariants.{Ended, Unended, Nothing}
use Rattle.cuts.specs.rule.Cut.{one_byte, two_bytes, no_ending, begins_with, terminator_at, terminator_of, whole_at, begins_at, end_from}
use Rattle.cuts.specs.rule.Cut.{next_from}
use Rattle.cuts.specs.rule.Cut.{Found}

-- the first place of d from `from` on where a byte below 32 stands, or the end
pub record FirstLow (d : List ℕ) (from to : ℕ) : Type 0 where
  pub clear : Clear d from to
  pub low : to < length d → low_at d to ≡ true

-- a place of d from `from` on, with no byte between that a terminator begins with
pub record Unbroken (d : List ℕ) (w : Terminator) (from to : ℕ) : Type 0 where
  pub on : from ≤ to
  pub within : to ≤ length d
  pub no_first : (j : ℕ) → from ≤ j → j < to → get_or d j 0 ≡ w.first → ⊥

-- a terminator that records can be cut by: its first byte is below 32, and it has two bytes at most
pub record Ending (w : Terminator) : Type 0 where
  pub low : w.first < 32
  pub few : w.size ≤ 2

-- ---- laws, place by place
module _ (d : List ℕ) (i : ℕ) where
  pub begins_here : (b : ℕ) → i < length d → begins_with b (drop i d) ≡ eqb (get_or d i 0) b
  unfolding begins_with
  begins_here b h = rw (drop-cons d i 0 h)

  pub begins_past : (b : ℕ) → length d ≤ i → begins_with b (drop i d) ≡ false
  unfolding begins_with
  begins_past b h = rw (drop_of_length-le d h)

  pub found_cr : i < length d → get_or d i 0 ≡ 13 → terminator_of (drop i d) ≡ terminator_at 13 10 (drop (i + 1) d)
  unfolding terminator_of
  found_cr h e = rw (drop-cons d i 0 h, eq-eqb (get_or d i 0) 13 e, add-one i)

  pub found_lf : i < length d → (get_or d i 0 ≡ 13 → ⊥) → get_or d i 0 ≡ 10 → terminator_of (drop i d)
      ≡ terminator_at 10 13 (drop (i + 1) d)
  unfolding terminator_of
  found_lf h n e = rw (drop-cons d i 0 h, ne_eqb (get_or d i 0) 13 n, eq-eqb (get_or d i 0) 10 e, add-one i)

  pub found_on : i < length d → (get_or d i 0 ≡ 13 → ⊥) → (get_or d i 0 ≡ 10 → ⊥) → terminator_of (drop i d)
      ≡ terminator_of (drop (i + 1) d)
  unfolding terminator_of
  found_on h n m = rw (drop-cons d i 0 h, ne_eqb (get_or d i 0) 13 n, ne_eqb (get_or d i 0) 10 m, add-one i)

  pub found_none : length d ≤ i → terminator_of (drop i d) ≡ no_ending
  unfolding terminator_of
  found_none h = rw (drop_of_length-le d h)

  module _ (w : Terminator) where
    pub stands_not : i < length d → (get_or d i 0 ≡ w.first → ⊥) → begins_at w (drop i d) ≡ false
    unfolding begins_at
    stands_not h n = rw (drop-cons d i 0 h, ne_eqb (get_or d i 0) w.first n)

    pub stands_whole : i < length d → get_or d i 0 ≡ w.first → begins_at w (drop i d) ≡ whole_at w (drop (i + 1) d)
    unfolding begins_at
    stands_whole h e = rw (drop-cons d i 0 h, eq-eqb (get_or d i 0) w.first e, add-one i)

    pub end_here : (start : ℕ) → i < length d → begins_at w (drop i d) ≡ true → end_from w start i (drop i d) ≡ Ended start i (i + w.size)
    unfolding end_from
    end_here start h e = let e' = rw (drop-cons d i 0 h) at e in rw (drop-cons d i 0 h, e')

    pub end_on : (start : ℕ) → i < length d → begins_at w (drop i d) ≡ false
        → end_from w start i (drop i d) ≡ end_from w start (i + 1) (drop (i + 1) d)
    unfolding end_from
    end_on start h e = let e' = rw (drop-cons d i 0 h) at e in rw (drop-cons d i 0 h, e', add-one i)

    pub end_none : (start : ℕ) → length d ≤ i → end_from w start i (drop i d) ≡ Unended start i
    unfolding end_from
    end_none start h = rw (drop_of_length-le d h)

    pub next_some : i < length d → next_from w i (drop i d) ≡ end_from w i i (drop i d)
    unfolding next_from
    next_some h = rw (drop-cons d i 0 h)

    pub next_none : length d ≤ i → next_from w i (drop i d) ≡ Nothing
    unfolding next_from
    next_none h = rw (drop_of_length-le d h)

pub at_few : (a b : ℕ) (s : List ℕ) → (terminator_at a b s).size ≤ 2
unfolding terminator_at
at_few a b s = go (begins_with b s)
  where
    go : (q : Bool) → (cond q (two_bytes a b) (one_byte a b)).size ≤ 2
    go true = omega arith
    go false = omega arith

-- a terminator's first byte is below 32
at_low : (a b : ℕ) (s : List ℕ) → a < 32 → (terminator_at a b s).first < 32
unfolding terminator_at
at_low a b s h = go (begins_with b s)
  where
    go : (q : Bool) → (cond q (two_bytes a b) (one_byte a b)).first < 32
    go true = h
    go false = h

pub first_low : (d : List ℕ) → (terminator_of d).first < 32
unfolding terminator_of
first_low [] = omega arith
first_low (b ∷ s) = go (eqb b 13) (eqb b 10) (first_low s)
  where
    go : (p q : Bool) → (terminator_of s).first < 32
        → (cond p (terminator_at 13 10 s) (cond q (terminator_at 10 13 s) (terminator_of s))).first < 32
    go true q h = at_low 13 10 s (omega arith)
    go false true h = at_low 10 13 s (omega arith)
    go false false h = h

-- the file's terminator is one that its records can be cut by
pub found_ending : {d : List ℕ} {w : Terminator} → Found d w → Ending w
found_ending {d} f = record { low = rw f.is (first_low d); few = f.few }

-- one stretch without a byte below 32 behind another
pub clear_join : {d : List ℕ} {a b c : ℕ} → Clear d a b → Clear d b c → Clear d a c
clear_join {d} {a} {b} p q = record {
  on = omega (arith, p.on, q.on);
  within = q.within;
  plain = λ j x y. ⊎_elim (λ l. p.plain j x l) (λ l. q.plain j l y) (lt_or_le j b);
}

-- ---- places that nothing begins at are passed together
pub unbroken_none : (d : List ℕ) (w : Terminator) (from : ℕ) → from ≤ length d → Unbroken d w from from
unbroken_none d w from h = record { on = omega arith; within = h; no_first = λ j a b. absurd (omega arith) }

module _ (d : List ℕ) where
  -- a byte that is not below 32 is no byte that is
  not_low : (j b : ℕ) → low_at d j ≡ false → b < 32 → get_or d j 0 ≡ b → ⊥
  not_low j b e h q = let l : 32 ≤ get_or d j 0 = ltb-false (get_or d j 0) 32 e in omega arith

  pub unbroken_plain : (w : Terminator) (from to : ℕ) → w.first < 32 → Clear d from to → Unbroken d w from to
  unbroken_plain w from to h c = record { on = c.on; within = c.within; no_first = λ j a b. not_low j w.first (c.plain j a b) h }

  end_past : (w : Terminator) (start n i : ℕ) → i + n ≤ length d → ((j : ℕ) → i ≤ j → j < i + n → get_or d j 0 ≡ w.first → ⊥)
      → end_from w start i (drop i d) ≡ end_from w start (i + n) (drop (i + n) d)
  end_past w start zero i h g = let e : i + 0 ≡ i = omega arith in rw e
  end_past w start (suc n) i h g =
      let e : i + suc n ≡ i + 1 + n = omega arith in
      end_on d i w start (omega arith) (stands_not d i w (omega arith) (g i (omega arith) (omega arith)))
      ∙ rw e (end_past w start n (i + 1) (omega arith) (λ j a b. g j (omega arith) (omega arith)))

  pub end_unbroken : (w : Terminator) (start from to : ℕ) → Unbroken d w from to
      → end_from w start from (drop from d) ≡ end_from w start to (drop to d)
  end_unbroken w start from to u =
      let e : from + (to - from) ≡ to = omega (arith, u.on) in
      rw e at (end_past w start (to - from) from (rw e u.within) (λ j a b. u.no_first j a (rw e at b)))

  found_past : (n i : ℕ) → i + n ≤ length d → ((j : ℕ) → i ≤ j → j < i + n → low_at d j ≡ false)
      → terminator_of (drop i d) ≡ terminator_of (drop (i + n) d)
  found_past zero i h g = let e : i + 0 ≡ i = omega arith in rw e
  found_past (suc n) i h g =
      let e : i + suc n ≡ i + 1 + n = omega arith in
      let p : low_at d i ≡ false = g i (omega arith) (omega arith) in
      found_on d i (omega arith) (not_low i 13 p (omega arith)) (not_low i 10 p (omega arith))
      ∙ rw e (found_past n (i + 1) (omega arith) (λ j a b. g j (omega arith) (omega arith)))

  pub found_clear : (to : ℕ) → Clear d 0 to → terminator_of d ≡ terminator_of (drop to d)
  found_clear to c = let e : 0 + to ≡ to = omega arith in rw e at (found_past to 0 (rw e c.within) (λ j a b. c.plain j a (rw e at b)))
