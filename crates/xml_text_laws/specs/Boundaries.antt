-- Legal characters, cut at a byte below 128: such a byte is a character of its own, so that characters stand before it and behind it.
use Rattle.std.specs.Prelude.{◌≡◌, Bool, true, List, [], ◌∷◌, ◌++◌, ℕ, suc, ◌+◌, ◌-◌, ◌<◌, ◌≤◌, length, take, drop, get_or}
use Rattle.std.proofs.Common.{ap, ◌∙◌, arith, length-drop, get_or-drop, drop-drop}
use Rattle.std.proofs.Math.Seq.{split_at}
use Rattle.utf.specs.rule.Chars.{legal_character, Spelt, Chars, none, more}
use Rattle.utf.specs.rule.Chars as chars
use Rattle.bridge.specs.Lowest.{never}

pub record Split (l : Bool) (u v : List ℕ) : Type 0 where
  pub before : List ℕ
  pub after : List ℕ
  pub left : Chars l before u
  pub right : Chars l after v

recast : {l : Bool} {cs u w : List ℕ} → u ≡ w → Chars l cs u → Chars l cs w
recast e c = rw (← e) c

module _ (b : ℕ) (small : b < 128) where
  abbrev Splits : Bool → List ℕ → Type 0
  Splits l t = (u v : List ℕ) → t ≡ u ++ b ∷ v → Split l u v

  -- a character of one byte, and those behind it
  one_byte_lem : {l : Bool} {c : ℕ} (t : List ℕ) {cs : List ℕ} → legal_character c ≡ true → Spelt l c (c ∷ []) → Chars l cs t → Splits l t
      → Splits l (c ∷ t)
  one_byte_lem t {cs} g w r ih [] v e =
      let f : t ≡ v = cc in record { before = []; after = cs; left = none; right = recast f r }
  one_byte_lem {c = c} t g w r ih (x ∷ u) v e =
      let f : t ≡ u ++ b ∷ v = cc in
      let k : c ≡ x = cc in
      let s = ih u v f in
      record {
        before = c ∷ s.before;
        after = s.after;
        left = recast {cs = c ∷ s.before} (ap (λ (y : ℕ). y ∷ u) k) (more {cs = s.before} g w s.left);
        right = s.right;
      }

  step : {l : Bool} {c : ℕ} {w : List ℕ} (t : List ℕ) {cs : List ℕ} → legal_character c ≡ true → Spelt l c w → Chars l cs t → Splits l t
      → Splits l (w ++ t)
  step t g (chars.latin h) r ih u v e = one_byte_lem t g (chars.latin h) r ih u v e
  step t g (chars.one h) r ih u v e = one_byte_lem t g (chars.one h) r ih u v e
  step t g (chars.two {x = x} i h k m) r ih [] v e = let f : 192 + x ≡ b = cc in absurd (omega arith)
  step t g (chars.two {y = y} i h k m) r ih (p ∷ []) v e = let f : 128 + y ≡ b = cc in absurd (omega arith)
  step t g (chars.two {c = c} {x = x} {y = y} i h k m) r ih (p ∷ q ∷ u) v e =
      let f : t ≡ u ++ b ∷ v = cc in
      let s = ih u v f in
      let o : (192 + x) ∷ (128 + y) ∷ u ≡ p ∷ q ∷ u = cc in
      record {
        before = c ∷ s.before;
        after = s.after;
        left = recast {cs = c ∷ s.before} o (more {cs = s.before} g (chars.two i h k m) s.left);
        right = s.right;
      }
  step t g (chars.three {x = x} i h k m n) r ih [] v e = let f : 224 + x ≡ b = cc in absurd (omega arith)
  step t g (chars.three {y = y} i h k m n) r ih (p ∷ []) v e = let f : 128 + y ≡ b = cc in absurd (omega arith)
  step t g (chars.three {z = z} i h k m n) r ih (p ∷ q ∷ []) v e = let f : 128 + z ≡ b = cc in absurd (omega arith)
  step t g (chars.three {c = c} {x = x} {y = y} {z = z} i h k m n) r ih (p ∷ q ∷ j ∷ u) v e =
      let f : t ≡ u ++ b ∷ v = cc in
      let s = ih u v f in
      let o : (224 + x) ∷ (128 + y) ∷ (128 + z) ∷ u ≡ p ∷ q ∷ j ∷ u = cc in
      record {
        before = c ∷ s.before;
        after = s.after;
        left = recast {cs = c ∷ s.before} o (more {cs = s.before} g (chars.three i h k m n) s.left);
        right = s.right;
      }
  step t g (chars.four {x = x} i h k m n a) r ih [] v e = let f : 240 + x ≡ b = cc in absurd (omega arith)
  step t g (chars.four {y = y} i h k m n a) r ih (p ∷ []) v e = let f : 128 + y ≡ b = cc in absurd (omega arith)
  step t g (chars.four {z = z} i h k m n a) r ih (p ∷ q ∷ []) v e = let f : 128 + z ≡ b = cc in absurd (omega arith)
  step t g (chars.four {w = w} i h k m n a) r ih (p ∷ q ∷ j ∷ []) v e = let f : 128 + w ≡ b = cc in absurd (omega arith)
  step t g (chars.four {c = c} {x = x} {y = y} {z = z} {w = w} i h k m n a) r ih (p ∷ q ∷ j ∷ o ∷ u) v e =
      let f : t ≡ u ++ b ∷ v = cc in
      let s = ih u v f in
      let y' : (240 + x) ∷ (128 + y) ∷ (128 + z) ∷ (128 + w) ∷ u ≡ p ∷ q ∷ j ∷ o ∷ u = cc in
      record {
        before = c ∷ s.before;
        after = s.after;
        left = recast {cs = c ∷ s.before} y' (more {cs = s.before} g (chars.four i h k m n a) s.left);
        right = s.right;
      }

  pub chars_split : {l : Bool} {cs s : List ℕ} → Chars l cs s → Splits l s
  chars_split none [] v e = never cc
  chars_split none (x ∷ u) v e = never cc
  chars_split (more {s = t} g w r) u v e = step t g w r (λ x y f. chars_split r x y f) u v e

-- behind a byte below 128, at q in a file whose characters are legal from p on
pub chars_behind : (l : Bool) (d : List ℕ) (p q : ℕ) {cs : List ℕ} → Chars l cs (drop p d) → p ≤ q → q < length d → get_or d q 0 < 128
    → (bs : List ℕ) × Chars l bs (drop (q + 1) d)
chars_behind l d p q c h i b =
    let k = q - p in
    let j : p + k ≡ q = omega arith in
    let f = split_at (drop p d) k 0 (omega (arith, length-drop p d)) in
    let g : get_or (drop p d) k 0 ≡ get_or d q 0 = get_or-drop p d k 0 ∙ ap (λ (n : ℕ). get_or d n 0) j in
    on (chars_split (get_or (drop p d) k 0) (rw g b) c (take k (drop p d)) (drop (suc k) (drop p d)) f) where
      on : {u : List ℕ} → Split l u (drop (suc (q - p)) (drop p d)) → (bs : List ℕ) × Chars l bs (drop (q + 1) d)
      on s =
          let j : p + suc (q - p) ≡ q + 1 = omega arith in
          (s.after, recast {cs = s.after} (drop-drop (suc (q - p)) p d ∙ ap (λ (n : ℕ). drop n d) j) s.right)
