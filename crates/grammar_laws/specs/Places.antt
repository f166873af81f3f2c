-- Places: a gap ends where it stands, and two gaps are one; words that differ in a letter are not written at one place.
use Rattle.std.specs.Prelude.{◌≡◌, Bool, cond, List, [], ◌∷◌, length, get_or, Ok}
use Rattle.std.proofs.Math.Path.{refl}
use Rattle.std.proofs.Common.{sym, ◌∙◌, arith}
use Rattle.std.proofs.Math.Bool.{true, false}
use Prim.Native.Nat.{ℕ, zero, suc, ◌+◌, ◌-◌, ◌<◌}
use Rattle.std.proofs.Math.Dec.{eqb, ltb}
use borrow.Author.Tests.{eqb-true, eqb-false, ltb-true, ltb-false, eq-eqb, ne_eqb}
use Rattle.ascii.specs.rule.Class.{class_of, upper_of}
use Rattle.scan.specs.rule.Text.{Text, stop, sign, text, place_of}
use Rattle.scan.specs.rule.Word.{word_of, word_at}
use Rattle.scan.specs.Word.{capitals}
use Rattle.scan.specs.declared.Word.TheVariants.{Matched, Not}
use Rattle.scan.proofs.Texts.{text_end, text_dropped, text_kept}
use Rattle.tokens.specs.rule.Gap.{gap_at}
use Rattle.token_laws.specs.Gaps.{none, token, ended, gap_exactly}
use Rattle.bridge.specs.Lowest.{never}
use Rattle.grammar.specs.Token.{Gap, Here, NoWord}
use Rattle.grammar_laws.specs.Views.{word_at_lem, no_word}

module _ (d : List ℕ) where
  -- ---- what is left at the place of the first byte that is left is just that
  at_place : (f n : ℕ) → length d - n < f → text d (place_of (text d n)) ≡ text d n
  unfolding place_of
  at_place zero n h = absurd (omega arith)
  at_place (suc f) n h = by (ltb n (length d)) (eqb (class_of (get_or d n 0)) 0) refl refl (at_place f (n + 1)) where
    by : (x y : Bool) → ltb n (length d) ≡ x → eqb (class_of (get_or d n 0)) 0 ≡ y
        → (length d - (n + 1) < f → text d (place_of (text d (n + 1))) ≡ text d (n + 1)) → text d (place_of (text d n)) ≡ text d n
    by false y e g ih = let q : place_of (text d n) ≡ n = rw (text_end d n (ltb-false n (length d) e)) in rw q
    by true true e g ih =
        let l = ltb-true n (length d) e in
        rw (text_dropped d n l (eqb-true _ _ g)) (ih (omega arith))
    by true false e g ih =
        let q : place_of (text d n) ≡ n = rw (text_kept d n (ltb-true n (length d) e) (eqb-false _ _ g)) in rw q

  pub place_text : (n : ℕ) → text d (place_of (text d n)) ≡ text d n
  place_text n = at_place (suc (length d - n)) n (omega arith)

  -- ---- what stands behind a gap stands at its place
  pub data Stood (p : ℕ) : Type 0 where
    byte : {b : ℕ} → text d p ≡ sign p b (text d (p + 1)) → (b ≡ 32 → ⊥) → (b ≡ 60 → ⊥) → Stood p
    end : text d p ≡ stop p → Stood p

  pub gap_stood : {n p : ℕ} → Gap d n p → Stood p
  unfolding place_of
  gap_stood (token {n = k} {p = p} {b = b} g e f h) =
      let q : text d p ≡ sign p b (text d (p + 1)) = rw e at (place_text k) in byte q f h
  gap_stood (ended {n = k} {p = p} g e) = let q : text d p ≡ stop p = rw e at (place_text k) in end q

  pub gap_stays : {n p : ℕ} → Gap d n p → Gap d p p
  gap_stays g = by (gap_stood g) where
    by : {p : ℕ} → Stood p → Gap d p p
    by (byte e f h) = token none e f h
    by (end e) = ended none e

  pub gap_there : {n m : ℕ} → Gap d n m → gap_at d n ≡ Ok m
  gap_there {n} {m} g = (gap_exactly d n (Ok m)).1 g

  pub gap_same : {n p q : ℕ} → Gap d n p → Gap d n q → p ≡ q
  gap_same g h = let e = sym (gap_there g) ∙ gap_there h in cc

  pub gap_join : {n p q : ℕ} → Gap d n p → Gap d p q → Gap d n q
  gap_join {n} g h = let e = gap_same (gap_stays g) h in rw e at g

-- ---- words that differ in a letter are not written at one place
unfoldable pub differ : List ℕ → List ℕ → Bool
differ [] v = false
differ (x ∷ w) [] = false
differ (x ∷ w) (y ∷ v) = cond (eqb x y) (differ w v) true

word_other : (at n : ℕ) (w v : List ℕ) (t : Text) → word_of at t w ≡ Matched n → differ w v ≡ true → word_of at t v ≡ Not
unfolding word_of differ
word_other at n [] v t e f = never cc
word_other at n (x ∷ w) [] t e f = never cc
word_other at n (x ∷ w) (y ∷ v) (stop p) e f = never cc
word_other at n (x ∷ w) (y ∷ v) (sign p b t) e f = by (eqb (upper_of b) x) (eqb x y) refl refl (word_other (p + 1) n w v t) e f where
  by : (q r : Bool) → eqb (upper_of b) x ≡ q → eqb x y ≡ r
      → (word_of (p + 1) t w ≡ Matched n → differ w v ≡ true → word_of (p + 1) t v ≡ Not)
      → cond q (word_of (p + 1) t w) Not ≡ Matched n → cond r (differ w v) true ≡ true
      → cond (eqb (upper_of b) y) (word_of (p + 1) t v) Not ≡ Not
  by true true g h ih e f = let i = eqb-true (upper_of b) x g in let j = eqb-true x y h in rw (eq-eqb (upper_of b) y (i ∙ j)) (ih e f)
  by true false g h ih e f = let i = eqb-true (upper_of b) x g in rw (ne_eqb (upper_of b) y (λ k. eqb-false x y h (sym i ∙ k)))
  by false r g h ih e f = never cc

module _ (d : List ℕ) {w v : List ℕ} (c : capitals w ≡ true) (a : capitals v ≡ true) (o : differ w v ≡ true) where
  pub other_word : {n m : ℕ} → Here d w n m → NoWord d v n
  unfolding word_at
  other_word {n} {m} h = no_word d a (word_other n m w v (text d n) (word_at_lem d c h) o)
