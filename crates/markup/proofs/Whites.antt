-- White space is passed byte by byte, whatever ends it; bytes that are asked at once, by their first, by four.
use mathlib.Core.Path.{◌≡◌, refl, ap, ◌∙◌}
use mathlib.Core.Bool.{Bool, true, false, ◌&&◌}
use mathlib.Core.List.{List, [], ◌∷◌, ◌++◌}
use Prim.Native.Nat.{ℕ, suc, ◌+◌, ◌-◌, ◌≤◌, ◌<◌}
use native.Mathlib.Omega.{arith}
use lib.Dec.{eqb}
use lib.ListN.{length, drop, get_or, length-drop}
use mathlib.Core.Logic.{◌⊎◌, inl, inr}
use borrow.Author.Tests.{eqb-true, ne_eqb}
use Rattle.below.specs.Below.{lt_or_le}
use Rattle.utf.proofs.Strides.{drop_1, drop_3}
use Rattle.markup.specs.rule.Bytes.{is_white, stands}
use Rattle.markup.specs.rule.Gap.{xml_comment, on_skip, move_of, gap_of}
use Rattle.markup.specs.rule.Grammar.{Each, no_more, each}
use Rattle.markup.specs.White.{Whites, Passed}
use Rattle.markup.specs.declared.Skip.{Skip}
use Rattle.markup.specs.declared.Skip.TheVariants.{Past, Broken}
use Rattle.markup.specs.declared.Move.TheVariants.{Stop}
use Rattle.markup.proofs.Runs.{first_at, onward}
use Rattle.markup.proofs.Gaps.{move_end, move_white, move_note, move_none, move_less, gap_next, gap_stop, stands_split, stands_long}

-- ---- white space
module _ (d : List ℕ) (p : ℕ) where
  pub whites_none : p ≤ length d → Whites d p p
  whites_none h = record { again = λ bad. refl; on = omega arith; within = h }

  pub whites_next : (i : ℕ) → Whites d p i → i < length d → is_white (get_or d i 0) ≡ true → Whites d p (i + 1)
  whites_next i x h e =
      let o = x.on in
      record {
        again = λ bad. x.again bad ∙ gap_next bad d i (i + 1) (move_white bad d i h e);
        on = omega arith;
        within = omega arith;
      }

  pub whites_join : {q r : ℕ} → Whites d p q → Whites d q r → Whites d p r
  whites_join x y =
      let a = x.on in
      let b = y.on in
      record { again = λ bad. x.again bad ∙ y.again bad; on = omega arith; within = y.within }

  pub whites_over : {q : ℕ} → Whites d p q → (q < length d → is_white (get_or d q 0) ≡ false) → Passed d p q
  whites_over x o = record { whites = x; over = o }

pub whites_byte : (d : List ℕ) (p b : ℕ) → p < length d → get_or d p 0 ≡ b → is_white b ≡ true → Whites d p (p + 1)
whites_byte d p b h e w = whites_next d p p (whites_none d p (omega arith)) h (rw e w)

pub line_white : is_white 10 ≡ true
unfolding is_white
line_white = refl

pub return_white : is_white 13 ≡ true
unfolding is_white
return_white = refl

space_white : is_white 32 ≡ true
unfolding is_white
space_white = refl

pub mark_black : is_white 60 ≡ false
unfolding is_white
mark_black = refl

spaces_white : (d : List ℕ) (u : List ℕ) → Each (λ b. eqb b 32) u → (p : ℕ) (t : List ℕ) → p ≤ length d → drop p d ≡ u ++ t
    → Whites d p (p + length u)
spaces_white d u no_more p t h e = let q : p + 0 ≡ p = omega arith in rw q (whites_none d p h)
spaces_white d u (each {b} {s} k r) p t h e =
    let f = first_at d p b (s ++ t) e in
    let q : p + suc (length s) ≡ p + 1 + length s = omega arith in
    rw q (whites_join d p (whites_byte d p 32 f.0 (f.1 ∙ eqb-true b 32 k) space_white)
    (spaces_white d s r (p + 1) t (omega arith) (onward d p 1 (b ∷ []) (s ++ t) e refl)))

pub four_white : (d : List ℕ) (p : ℕ) → p + 4 ≤ length d → stands (32 ∷ 32 ∷ 32 ∷ 32 ∷ []) (drop p d) ≡ true → Whites d p (p + 4)
four_white d p h e =
    let s = stands_split (32 ∷ 32 ∷ 32 ∷ 32 ∷ []) (drop p d) e in
    spaces_white d (32 ∷ 32 ∷ 32 ∷ 32 ∷ []) (each refl (each refl (each refl (each refl no_more)))) p s.0 (omega arith) s.1

-- ---- a gap behind its white space
note_inside : (d : List ℕ) (i : ℕ) → i ≤ length d → stands (60 ∷ 33 ∷ 45 ∷ 45 ∷ []) (drop i d) ≡ true → i + 4 ≤ length d
note_inside d i h e =
    let l = stands_long (60 ∷ 33 ∷ 45 ∷ 45 ∷ []) (drop i d) e in
    let n = length-drop i d in
    omega arith

module _ (bad : Bool) (d : List ℕ) (p i : ℕ) (x : Passed d p i) where
  pub gap_over : stands (60 ∷ 33 ∷ 45 ∷ 45 ∷ []) (drop i d) ≡ false → gap_of bad d p ≡ Past i
  gap_over e = x.whites.again bad ∙ gap_stop bad d i (Past i) (by (lt_or_le i (length d))) where
    by : (i < length d) ⊎ (length d ≤ i) → move_of bad i (drop i d) ≡ Stop (Past i)
    by (inl h) = move_none bad d i h (x.over h) e
    by (inr h) = move_end bad d i h

  module _ (e : stands (60 ∷ 33 ∷ 45 ∷ 45 ∷ []) (drop i d) ≡ true) where
    pub note_fits : i + 4 ≤ length d
    note_fits = note_inside d i x.whites.within e

    noted : (r : Skip) → xml_comment bad i (i + 4) (drop (i + 4) d) ≡ r → move_of bad i (drop i d) ≡ on_skip r
    noted r f =
        let n = note_fits in
        let h : i < length d = omega arith in
        move_note bad d i h (x.over h) e ∙ ap on_skip f

    pub gap_noted : (m : ℕ) → xml_comment bad i (i + 4) (drop (i + 4) d) ≡ Past m → (gap_of bad d p ≡ gap_of bad d m) × (i < m)
        × (m ≤ length d)
    gap_noted m f =
        let l = move_less bad d i m (noted (Past m) f) in
        (x.whites.again bad ∙ gap_next bad d i m (noted (Past m) f), l.0, l.1)

    pub gap_broken : (q : ℕ) → xml_comment bad i (i + 4) (drop (i + 4) d) ≡ Broken q → gap_of bad d p ≡ Broken q
    gap_broken q f = x.whites.again bad ∙ gap_stop bad d i (Broken q) (noted (Broken q) f)

-- ---- given bytes
and_true : (b : Bool) → (b && true) ≡ b
and_true true = refl
and_true false = refl

pub stands_four : (d : List ℕ) (p a b c e : ℕ) → p + 4 ≤ length d
    → (eqb (get_or d p 0) a && (eqb (get_or d (p + 1) 0) b && (eqb (get_or d (p + 2) 0) c && eqb (get_or d (p + 3) 0) e)))
    ≡ stands (a ∷ b ∷ c ∷ e ∷ []) (drop p d)
unfolding stands
stands_four d p a b c e h = rw (drop_3 d p (omega arith), drop_1 d (p + 3) (omega arith), and_true (eqb (get_or d (p + 3) 0) e))

-- they don't stand where too few are left
pub stands_few : (d : List ℕ) (p : ℕ) (w : List ℕ) → p ≤ length d → length d - p < length w → stands w (drop p d) ≡ false
stands_few d p w h k = by (stands w (drop p d)) refl where
  by : (q : Bool) → stands w (drop p d) ≡ q → stands w (drop p d) ≡ false
  by true e = let l = stands_long w (drop p d) e in let n = length-drop p d in absurd (omega arith)
  by false e = e

-- nor where the first is another
pub stands_other : (d : List ℕ) (p x : ℕ) (w : List ℕ) → p < length d → (get_or d p 0 ≡ x → ⊥) → stands (x ∷ w) (drop p d) ≡ false
unfolding stands
stands_other d p x w h k = rw (drop_1 d p h, ne_eqb _ _ k)
