-- Classes and words over the characters of a stretch, one character on, and in the paper's words.
use mathlib.Core.Path.{◌≡◌, refl, sym, ap, ◌∙◌}
use mathlib.Core.Logic.{◌↔◌}
use mathlib.Core.Bool.{Bool, true, false}
use mathlib.Core.List.{List, [], ◌∷◌}
use Prim.Native.Nat.{ℕ, suc, ◌+◌, ◌≤◌, ◌<◌}
use native.Mathlib.Omega.{arith}
use lib.Dec.{leb, eqb}
use lib.ListN.{length, drop, get_or, drop_of_length-le}
use borrow.Author.Tests.{eq-eqb, ne_eqb, eqb-true, leb-true, leb-false}
use Rattle.below.specs.Below.{and_left, and_right}
use Rattle.utf.proofs.Strides.{drop_1}
use Rattle.spans.specs.rule.Heard.{Says, Heard, All, Ill, after, first_heard, heard}
use Rattle.spans.specs.declared.First.TheVariants.{One, End, Not}
use Rattle.spans.specs.rule.Says.{each_char, of_class, count_after, same_of, heard_word}
use Rattle.spans.proofs.Hearing.{heard_one, heard_end, heard_not, heard_exactly}

-- ---- a class
module _ (class k c : ℕ) where
  pub count_next : (h : Heard) → of_class class c ≡ true → count_after class k (after c h) ≡ count_after class (k + 1) h
  unfolding count_after each_char
  count_next (All cs) e = let n : k + suc (length cs) ≡ k + 1 + length cs = omega arith in rw (e, n)
  count_next Ill e = refl

  pub count_not : (h : Heard) → of_class class c ≡ false → count_after class k (after c h) ≡ 0
  unfolding count_after each_char
  count_not (All cs) e = rw e
  count_not Ill e = refl

pub count_end : (class k : ℕ) → count_after class k (All []) ≡ k
unfolding count_after each_char
count_end class k = omega arith

pub count_ill : (class k : ℕ) → count_after class k Ill ≡ 0
unfolding count_after
count_ill class k = refl

module _ (class k : ℕ) (s : List ℕ) (n : ℕ) where
  pub count_on : {c m : ℕ} → first_heard s n ≡ One c m → of_class class c ≡ true → count_after class k (heard s n)
      ≡ count_after class (k + 1) (heard s m)
  count_on {c} {m} e t = ap (count_after class k) (heard_one s n c m e) ∙ count_next class k c (heard s m) t

  pub count_off : {c m : ℕ} → first_heard s n ≡ One c m → of_class class c ≡ false → count_after class k (heard s n) ≡ 0
  count_off {c} {m} e t = ap (count_after class k) (heard_one s n c m e) ∙ count_not class k c (heard s m) t

  pub count_over : first_heard s n ≡ End → count_after class k (heard s n) ≡ k
  count_over e = ap (count_after class k) (heard_end s n e) ∙ count_end class k

  pub count_bad : first_heard s n ≡ Not → count_after class k (heard s n) ≡ 0
  count_bad e = ap (count_after class k) (heard_not s n e) ∙ count_ill class k

-- ---- a word
module _ (w : List ℕ) (i c : ℕ) where
  pub word_next : (h : Heard) → i < length w → get_or w i 0 ≡ c → heard_word (drop i w) (after c h) ≡ heard_word (drop (i + 1) w) h
  unfolding heard_word same_of
  word_next (All cs) l e = rw (drop_1 w i l, eq-eqb (get_or w i 0) c e)
  word_next Ill l e = refl

  pub word_other : (h : Heard) → i < length w → (get_or w i 0 ≡ c → ⊥) → heard_word (drop i w) (after c h) ≡ false
  unfolding heard_word same_of
  word_other (All cs) l e = rw (drop_1 w i l, ne_eqb (get_or w i 0) c e)
  word_other Ill l e = refl

  pub word_longer : (h : Heard) → length w ≤ i → heard_word (drop i w) (after c h) ≡ false
  unfolding heard_word same_of
  word_longer (All cs) l = rw (drop_of_length-le w l)
  word_longer Ill l = refl

module _ (w : List ℕ) (i : ℕ) where
  pub word_whole : length w ≤ i → heard_word (drop i w) (All []) ≡ true
  unfolding heard_word same_of
  word_whole l = rw (drop_of_length-le w l)

  pub word_shorter : i < length w → heard_word (drop i w) (All []) ≡ false
  unfolding heard_word same_of
  word_shorter l = rw (drop_1 w i l)

  pub word_ill : heard_word (drop i w) Ill ≡ false
  unfolding heard_word
  word_ill = refl

  word_end : heard_word (drop i w) (All []) ≡ leb (length w) i
  word_end = by (leb (length w) i) refl where
    by : (q : Bool) → leb (length w) i ≡ q → heard_word (drop i w) (All []) ≡ q
    by true e = word_whole (leb-true (length w) i e)
    by false e = word_shorter (leb-false (length w) i e)

module _ (w : List ℕ) (i : ℕ) (s : List ℕ) (n : ℕ) where
  pub word_on_lem : {c m : ℕ} → first_heard s n ≡ One c m → i < length w → get_or w i 0 ≡ c → heard_word (drop i w) (heard s n)
      ≡ heard_word (drop (i + 1) w) (heard s m)
  word_on_lem {c} {m} e l q = ap (heard_word (drop i w)) (heard_one s n c m e) ∙ word_next w i c (heard s m) l q

  pub word_off : {c m : ℕ} → first_heard s n ≡ One c m → i < length w → (get_or w i 0 ≡ c → ⊥) → heard_word (drop i w) (heard s n) ≡ false
  word_off {c} {m} e l q = ap (heard_word (drop i w)) (heard_one s n c m e) ∙ word_other w i c (heard s m) l q

  pub word_past_lem : {c m : ℕ} → first_heard s n ≡ One c m → length w ≤ i → heard_word (drop i w) (heard s n) ≡ false
  word_past_lem {c} {m} e l = ap (heard_word (drop i w)) (heard_one s n c m e) ∙ word_longer w i c (heard s m) l

  pub word_over : first_heard s n ≡ End → heard_word (drop i w) (heard s n) ≡ leb (length w) i
  word_over e = ap (heard_word (drop i w)) (heard_end s n e) ∙ word_end w i

  pub word_bad : first_heard s n ≡ Not → heard_word (drop i w) (heard s n) ≡ false
  word_bad e = ap (heard_word (drop i w)) (heard_not s n e) ∙ word_ill w i

same_is : (w cs : List ℕ) → same_of w cs ≡ true → w ≡ cs
unfolding same_of
same_is [] [] e = refl
same_is [] (c ∷ cs) e = let z : ◌≡◌ {A = ℕ} 0 1 = cc in absurd (omega arith)
same_is (x ∷ w) [] e = let z : ◌≡◌ {A = ℕ} 0 1 = cc in absurd (omega arith)
same_is (x ∷ w) (c ∷ cs) e =
    let h = eqb-true x c (and_left (eqb x c) (same_of w cs) e) in
    let i = same_is w cs (and_right (eqb x c) (same_of w cs) e) in
    rw (h, i)

is_same : (w : List ℕ) → same_of w w ≡ true
unfolding same_of
is_same [] = refl
is_same (x ∷ w) = rw (eq-eqb x x refl, is_same w)

-- WORD: it is there exactly when the stretch says its characters, as bytes, by reference, with comments between
pub word_exactly : (s w : List ℕ) → (heard_word w (heard s 0) ≡ true) ↔ Says s w
unfolding heard_word
word_exactly s w = (sound (heard s 0) refl, λ v. rw ((heard_exactly s w).1 v) (is_same w)) where
  sound : (h : Heard) → heard s 0 ≡ h → heard_word w h ≡ true → Says s w
  sound (All cs) f e = (heard_exactly s w).0 (f ∙ ap All (sym (same_is w cs e)))
  sound Ill f e = let z : ◌≡◌ {A = ℕ} 0 1 = cc in absurd (omega arith)
