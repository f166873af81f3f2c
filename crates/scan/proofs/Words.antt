-- A keyword's letter at index i, against what is left to read.
use mathlib.Core.Path.{◌≡◌, refl, ◌∙◌}
use mathlib.Core.List.{List}
use mathlib.Core.Bool.{Bool, true, false, cond, ◌&&◌}
use Prim.Native.Nat.{ℕ, ◌+◌, ◌-◌, ◌≤◌, ◌<◌}
use native.Mathlib.Numerals.{add-one}
use native.Mathlib.Omega.{arith}
use lib.Dec.{eqb, ltb, leb}
use lib.ListN.{length, get_or, drop, drop_of_length-le}
use lib.Seq.{drop-cons}
use borrow.Author.Tests.{eq-eqb, ne_eqb, eqb-true, ltb-false, leb-true}
use Rattle.scan.specs.rule.Text.{Text, stop, sign, text}
use Rattle.scan.specs.rule.Word.{word_of}
use Rattle.ascii.specs.rule.Class.{upper_of}
use Rattle.below.specs.Below.{and_left, and_right}
use Rattle.scan.specs.declared.Word.TheVariants.{Matched, Not}
use Rattle.scan.proofs.Texts.{text_kept, kept_byte}

module _ (n : ℕ) {t : Text} (w : List ℕ) (i : ℕ) where
  pub word_next : {p b : ℕ} {u : Text} → t ≡ sign p b u → i < length w → upper_of b ≡ get_or w i 0 → word_of n t (drop i w)
      ≡ word_of (p + 1) u (drop (i + 1) w)
  unfolding word_of
  word_next e h q = rw (e, drop-cons w i 0 h, eq-eqb _ _ q, add-one i)

  pub word_not : {p b : ℕ} {u : Text} → t ≡ sign p b u → i < length w → (upper_of b ≡ get_or w i 0 → ⊥) → word_of n t (drop i w) ≡ Not
  unfolding word_of
  word_not e h q = rw (e, drop-cons w i 0 h, ne_eqb _ _ q)

  pub word_short : {p : ℕ} → t ≡ stop p → i < length w → word_of n t (drop i w) ≡ Not
  unfolding word_of
  word_short e h = rw (e, drop-cons w i 0 h)

module _ (n : ℕ) (t : Text) (w : List ℕ) (i : ℕ) where
  pub word_whole : length w ≤ i → word_of n t (drop i w) ≡ Matched n
  unfolding word_of
  word_whole h = rw (drop_of_length-le w h)

-- ---- a keyword as it is given, byte by byte of the file
-- a byte that is a letter in neither case
pub upper_miss : (b x : ℕ) → (b ≡ x → ⊥) → (b ≡ x + 32 → ⊥) → upper_of b ≡ x → ⊥
unfolding upper_of
upper_miss b x f g = by (ltb b 97) (leb b 122) refl where
  by : (p q : Bool) → ltb b 97 ≡ p → cond p b (cond q (b - 32) b) ≡ x → ⊥
  by true q i e = f e
  by false true i e = let h = ltb-false b 97 i in g (omega arith)
  by false false i e = f e

-- the byte at a place is kept, and not the first letter
pub word_missed : (d : List ℕ) (at : ℕ) (w : List ℕ) → at < length d → (length w ≡ 0 → ⊥) → 32 ≤ get_or d at 0
    → (upper_of (get_or d at 0) ≡ get_or w 0 0 → ⊥) → word_of at (text d at) w ≡ Not
word_missed d at w h k l m = word_not at w 0 (text_kept d at h (kept_byte _ l)) (omega arith) m

-- letter i stands i places on, as it is given, and is no small letter
pub word_letter : (d : List ℕ) (at : ℕ) (w : List ℕ) (i : ℕ) → at + length w ≤ length d → i < length w
    → (eqb (get_or d (at + i) 0) (get_or w i 0) && (leb 32 (get_or w i 0) && ltb (get_or w i 0) 97)) ≡ true
    → word_of (at + i) (text d (at + i)) (drop i w) ≡ word_of (at + (i + 1)) (text d (at + (i + 1))) (drop (i + 1) w)
unfolding upper_of
word_letter d at w i h k e =
    let x = get_or w i 0 in
    let b = get_or d (at + i) 0 in
    let r = and_right (eqb b x) (leb 32 x && ltb x 97) e in
    let q : b ≡ x = eqb-true b x (and_left (eqb b x) (leb 32 x && ltb x 97) e) in
    let low : 32 ≤ x = leb-true 32 x (and_left (leb 32 x) (ltb x 97) r) in
    let u : upper_of b ≡ x = rw q (rw (and_right (leb 32 x) (ltb x 97) r) refl) in
    let n : at + i + 1 ≡ at + (i + 1) = omega arith in
    word_next (at + i) w i (text_kept d (at + i) (omega arith) (kept_byte b (omega arith))) k u ∙ rw n
