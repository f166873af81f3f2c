-- The first bad place from a character on, from a place without one, and past sixteen plain bytes.
use mathlib.Core.Path.{◌≡◌, refl, ◌∙◌}
use mathlib.Core.Bool.{Bool, true, false, cond}
use mathlib.Core.List.{List, [], ◌∷◌}
use Prim.Native.Nat.{ℕ, zero, suc, ◌+◌, ◌-◌, ◌≤◌, ◌<◌}
use native.Mathlib.Numerals.{add-one}
use native.Mathlib.Nat.{add-zero}
use native.Mathlib.Omega.{arith}
use lib.Dec.{ltb, eqb}
use lib.ListN.{length, drop, get_or, length-drop, drop_of_length-le}
use lib.Seq.{drop-cons}
use borrow.Author.Tests.{eq-eqb, ne_eqb, eqb-false}
use Rattle.below.specs.Below.{all_at_lem}
use Rattle.scan.specs.rule.Loop.{Again, Done}
use Rattle.scan.proofs.Loops.{loop_again, loop_done}
use Rattle.utf.specs.rule.Cut.{plain_of, valid_pair, triple_of, valid_four, two_in, three_in, four_in, long_of, character_width, bad_step}
use Rattle.utf.specs.rule.Cut.{first_bad}
use Rattle.utf.specs.Stride.{all_plain, Stride}

-- ---- the bytes from a place on, one by one
module _ (d : List ℕ) (at : ℕ) where
  pub drop_1 : at < length d → drop at d ≡ get_or d at 0 ∷ drop (at + 1) d
  drop_1 h = drop-cons d at 0 h ∙ rw (add-one at)

  pub drop_2 : at + 1 < length d → drop at d ≡ get_or d at 0 ∷ get_or d (at + 1) 0 ∷ drop (at + 1 + 1) d
  drop_2 h = drop-cons d at 0 (omega arith) ∙ rw (← (add-one at), drop-cons d (at + 1) 0 h, add-one (at + 1))

  pub drop_3 : at + 2 < length d → drop at d ≡ get_or d at 0 ∷ get_or d (at + 1) 0 ∷ get_or d (at + 2) 0 ∷ drop (at + 3) d
  drop_3 h =
      let e : at + 1 + 1 ≡ at + 2 = omega arith in
      let f : suc (at + 2) ≡ at + 3 = omega arith in
      drop_2 (omega arith) ∙ rw (e, drop-cons d (at + 2) 0 h, f)

-- ---- too few bytes
pub two_short : (a : ℕ) (s : List ℕ) → length s < 1 → two_in a s ≡ 0
unfolding two_in
two_short a [] h = refl
two_short a (b ∷ s) h = absurd (omega arith)

pub three_short : (a : ℕ) (s : List ℕ) → length s < 2 → three_in a s ≡ 0
unfolding three_in
three_short a [] h = refl
three_short a (b ∷ []) h = refl
three_short a (b ∷ c ∷ s) h = absurd (omega arith)

pub four_short : (a : ℕ) (s : List ℕ) → length s < 3 → four_in a s ≡ 0
unfolding four_in
four_short a [] h = refl
four_short a (b ∷ []) h = refl
four_short a (b ∷ c ∷ []) h = refl
four_short a (b ∷ c ∷ e ∷ s) h = absurd (omega arith)

-- ---- a character lies within its bytes
two_within : (a : ℕ) (s : List ℕ) → two_in a s ≤ suc (length s)
unfolding two_in
two_within a [] = omega arith
two_within a (b ∷ s) = by (valid_pair a b) where
  by : (q : Bool) → cond q 2 0 ≤ suc (suc (length s))
  by true = omega arith
  by false = omega arith

three_within : (a : ℕ) (s : List ℕ) → three_in a s ≤ suc (length s)
unfolding three_in
three_within a [] = omega arith
three_within a (b ∷ []) = omega arith
three_within a (b ∷ c ∷ s) = by (triple_of a b c) where
  by : (q : Bool) → cond q 3 0 ≤ suc (suc (suc (length s)))
  by true = omega arith
  by false = omega arith

four_within : (a : ℕ) (s : List ℕ) → four_in a s ≤ suc (length s)
unfolding four_in
four_within a [] = omega arith
four_within a (b ∷ []) = omega arith
four_within a (b ∷ c ∷ []) = omega arith
four_within a (b ∷ c ∷ e ∷ s) = by (valid_four a b c e) where
  by : (q : Bool) → cond q 4 0 ≤ suc (suc (suc (suc (length s))))
  by true = omega arith
  by false = omega arith

cond_le : (q : Bool) (x y n : ℕ) → x ≤ n → y ≤ n → cond q x y ≤ n
cond_le true x y n h k = h
cond_le false x y n h k = k

long_within : (a : ℕ) (s : List ℕ) → long_of a s ≤ suc (length s)
unfolding long_of
long_within a s =
    cond_le (ltb a 192) _ _ _ (omega arith)
    (cond_le (ltb a 224) _ _ _ (two_within a s) (cond_le (ltb a 240) _ _ _ (three_within a s)
    (cond_le (ltb a 248) _ _ _ (four_within a s) (omega arith))))

pub width_within : (l : Bool) (s : List ℕ) → character_width l s ≤ length s
unfolding character_width
width_within l [] = omega arith
width_within l (a ∷ s) = cond_le (plain_of l a) _ _ _ (omega arith) (cond_le l _ _ _ (omega arith) (long_within a s))

pub positive : (n : ℕ) → (n ≡ 0 → ⊥) → 0 < n
positive zero k = absurd (k refl)
positive (suc n) k = omega arith

pub apart : (a b : ℕ) → a ≤ b → (b ≡ a → ⊥) → a < b
apart a b h k = let p = positive (b - a) (λ e. k (omega arith)) in omega arith

-- ---- from character to character
module _ (l : Bool) (d : List ℕ) where
  less : (p q : ℕ) → bad_step l d p ≡ Again q → length d - q < length d - p
  less p q e = by (eqb (character_width l (drop p d)) 0) refl e where
    by : (t : Bool) → eqb (character_width l (drop p d)) 0 ≡ t → cond t (Done p) (Again (p + character_width l (drop p d))) ≡ Again q
        → length d - q
        < length d - p
    by true f g = let z : ◌≡◌ {A = ℕ} 0 1 = cc in absurd (omega arith)
    by false f g =
        let w = width_within l (drop p d) in
        let n = length-drop p d in
        let h : q ≡ p + character_width l (drop p d) = cc in
        let z : character_width l (drop p d) ≡ 0 → ⊥ = eqb-false _ _ f in
        let m : 0 < character_width l (drop p d) = positive _ z in
        omega arith

  pub bad_here : (p : ℕ) → character_width l (drop p d) ≡ 0 → first_bad l d p ≡ p
  unfolding first_bad
  bad_here p e = loop_done (bad_step l d) 0 (λ p. length d - p) less (rw (eq-eqb _ _ e))

  pub bad_next : (p : ℕ) → (character_width l (drop p d) ≡ 0 → ⊥) → first_bad l d p ≡ first_bad l d (p + character_width l (drop p d))
  unfolding first_bad
  bad_next p e = loop_again (bad_step l d) 0 (λ p. length d - p) less (rw (ne_eqb _ _ e))

  pub bad_end : (p : ℕ) → length d ≤ p → first_bad l d p ≡ p
  unfolding character_width
  bad_end p h = bad_here p (rw (drop_of_length-le d h))

  width_plain : (p : ℕ) → p < length d → plain_of l (get_or d p 0) ≡ true → character_width l (drop p d) ≡ 1
  unfolding character_width
  width_plain p h e = rw (drop-cons d p 0 h, e)

  bad_plain : (p : ℕ) → p < length d → plain_of l (get_or d p 0) ≡ true → first_bad l d p ≡ first_bad l d (p + 1)
  bad_plain p h e =
      let w = width_plain p h e in
      bad_next p (λ z. let o : ◌≡◌ {A = ℕ} 0 1 = cc in omega arith) ∙ rw w

  plains : (p n : ℕ) → p + n ≤ length d → ((k : ℕ) → k < n → plain_of l (get_or d (p + k) 0) ≡ true) → first_bad l d p
      ≡ first_bad l d (p + n)
  plains p zero h g = rw (add-zero p)
  plains p (suc n) h g =
      let e : p + n + 1 ≡ p + suc n = omega arith in
      plains p n (omega arith) (λ k i. g k (omega arith)) ∙ bad_plain (p + n) (omega arith) (g n (omega arith)) ∙ rw e

  -- sixteen plain bytes
  pub stride_plain : (p : ℕ) → p + 16 ≤ length d → all_plain l d p 16 ≡ true → Stride l d p (p + 16)
  unfolding all_plain
  stride_plain p h e = record {
    again = plains p 16 h (λ k i. all_at_lem (λ k. plain_of l (get_or d (p + k) 0)) 16 k i e);
    on = omega arith;
    within = h;
    over = λ z. absurd (omega arith);
  }
