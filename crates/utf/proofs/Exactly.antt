-- The first bad place, in the standards' words: legal characters stand up to it, and none stands there.
use mathlib.Core.Path.{◌≡◌, refl, sym, ap, ◌∙◌}
use mathlib.Core.Logic.{◌↔◌}
use mathlib.Core.Bool.{Bool, true, false, cond, ◌&&◌, and-false}
use mathlib.Core.List.{List, [], ◌∷◌, ◌++◌, append_assoc}
use Prim.Native.Nat.{ℕ, zero, suc, ◌+◌, ◌*◌, ◌-◌, ◌≤◌, ◌<◌}
use native.Mathlib.Omega.{arith}
use lib.Dec.{ltb, leb}
use lib.ListN.{length, drop, length-append, length-drop}
use lib.Seq.{drop_at, drop-drop}
use borrow.Author.Tests.{lt-ltb, le-ltb, le-leb, ltb-true, ltb-false, leb-true}
use Rattle.below.specs.Below.{and_left, and_right}
use Rattle.utf.specs.rule.Chars.{legal_character, Spelt, latin, one, two, three, four, Chars, none, more, NoneAt, Cut}
use Rattle.utf.specs.rule.Cut.{plain_of, follows, valid_pair, triple_of, valid_four, two_in, three_in, four_in, long_of, character_width}
use Rattle.utf.specs.rule.Cut.{first_bad}
use Rattle.utf.proofs.Strides.{bad_here, bad_next, width_within}

-- ---- a byte that follows, both ways
follows_yes : (y : ℕ) → y < 64 → follows (128 + y) ≡ true
unfolding follows
follows_yes y h = rw (le-leb 128 (128 + y) (omega arith), lt-ltb (128 + y) 192 (omega arith))

follows_low : (b : ℕ) → follows b ≡ true → 128 ≤ b
unfolding follows
follows_low b e = leb-true 128 b (and_left (leb 128 b) (ltb b 192) e)

follows_high : (b : ℕ) → follows b ≡ true → b < 192
unfolding follows
follows_high b e = ltb-true b 192 (and_right (leb 128 b) (ltb b 192) e)

-- ---- a legal character's bytes are found
no_plain : (a : ℕ) → 128 ≤ a → plain_of false a ≡ false
unfolding plain_of
no_plain a h = rw (le-ltb a 128 h) (and-false (legal_character a))

pub width_complete : {l : Bool} {c : ℕ} {u : List ℕ} (t : List ℕ) → legal_character c ≡ true → Spelt l c u → character_width l (u ++ t)
    ≡ length u
unfolding character_width plain_of long_of two_in three_in four_in valid_pair triple_of valid_four
width_complete {c = c} t q (latin h) = rw (q, lt-ltb c 256 h)
width_complete {c = c} t q (one h) = rw (q, lt-ltb c 128 h)
width_complete t q (two {c} {x} {y} e h k m) =
    let v : (192 + x - 192) * 64 + (128 + y - 128) ≡ c = omega arith in
    rw (no_plain (192 + x) (omega arith), le-ltb (192 + x) 192 (omega arith), lt-ltb (192 + x) 224 (omega arith), follows_yes y k)
    (rw (v, le-leb 128 c m, q))
width_complete t q (three {c} {x} {y} {z} e h k i m) =
    let v : (224 + x - 224) * 4096 + ((128 + y - 128) * 64 + (128 + z - 128)) ≡ c = omega arith in
    rw (
      no_plain (224 + x) (omega arith),
      le-ltb (224 + x) 192 (omega arith),
      le-ltb (224 + x) 224 (omega arith),
      lt-ltb (224 + x) 240 (omega arith),
    )
    (rw (follows_yes y k, follows_yes z i, v, le-leb 2048 c m, q))
width_complete t q (four {c} {x} {y} {z} {w} e h k i j m) =
    let v : (240 + x - 240) * 262144 + ((128 + y - 128) * 4096 + ((128 + z - 128) * 64 + (128 + w - 128))) ≡ c = omega arith in
    rw (
      no_plain (240 + x) (omega arith),
      le-ltb (240 + x) 192 (omega arith),
      le-ltb (240 + x) 224 (omega arith),
      le-ltb (240 + x) 240 (omega arith),
      lt-ltb (240 + x) 248 (omega arith),
    )
    (rw (follows_yes y k, follows_yes z i, follows_yes w j, v, le-leb 65536 c m, q))

-- ---- what is found is a legal character's bytes
pub record Found (l : Bool) (s : List ℕ) (n : ℕ) : Type 0 where
  pub char : ℕ
  pub bytes : List ℕ
  pub rest : List ℕ
  pub good : legal_character char ≡ true
  pub spelt : Spelt l char bytes
  pub split : s ≡ bytes ++ rest
  pub long : length bytes ≡ n

never : {A : Type 0} {k : ℕ} → ◌≡◌ {A = ℕ} 0 (suc k) → A
never e = absurd (omega arith)

two_sound : (a k : ℕ) (s : List ℕ) → 192 ≤ a → a < 224 → two_in a s ≡ suc k → Found false (a ∷ s) (suc k)
unfolding two_in valid_pair
two_sound a k [] g h e = never e
two_sound a k (b ∷ s) g h e = by (valid_pair a b) refl e where
  by : (q : Bool) → valid_pair a b ≡ q → cond q 2 0 ≡ suc k → Found false (a ∷ b ∷ s) (suc k)
  by false f e = never e
  by true f e =
      let v = (a - 192) * 64 + (b - 128) in
      let fb = and_left (follows b) (leb 128 v && legal_character v) f in
      let r = and_right (follows b) (leb 128 v && legal_character v) f in
      let lo = follows_low b fb in
      let hi = follows_high b fb in
      let x : 192 + (a - 192) ≡ a = omega arith in
      let y : 128 + (b - 128) ≡ b = omega arith in
      record {
        char = v;
        bytes = (192 + (a - 192)) ∷ (128 + (b - 128)) ∷ [];
        rest = s;
        good = and_right (leb 128 v) (legal_character v) r;
        spelt = two {x = a - 192} {y = b - 128} refl (omega arith) (omega arith)
            (leb-true 128 v (and_left (leb 128 v) (legal_character v) r));
        split = rw (x, y);
        long = e;
      }

three_sound : (a k : ℕ) (s : List ℕ) → 224 ≤ a → a < 240 → three_in a s ≡ suc k → Found false (a ∷ s) (suc k)
unfolding three_in triple_of
three_sound a k [] g h e = never e
three_sound a k (b ∷ []) g h e = never e
three_sound a k (b ∷ c ∷ s) g h e = by (triple_of a b c) refl e where
  by : (q : Bool) → triple_of a b c ≡ q → cond q 3 0 ≡ suc k → Found false (a ∷ b ∷ c ∷ s) (suc k)
  by false f e = never e
  by true f e =
      let v = (a - 224) * 4096 + ((b - 128) * 64 + (c - 128)) in
      let fb = and_left (follows b) (follows c && (leb 2048 v && legal_character v)) f in
      let f1 = and_right (follows b) (follows c && (leb 2048 v && legal_character v)) f in
      let fc = and_left (follows c) (leb 2048 v && legal_character v) f1 in
      let r = and_right (follows c) (leb 2048 v && legal_character v) f1 in
      let lo = follows_low b fb in
      let hi = follows_high b fb in
      let lo2 = follows_low c fc in
      let hi2 = follows_high c fc in
      let x : 224 + (a - 224) ≡ a = omega arith in
      let y : 128 + (b - 128) ≡ b = omega arith in
      let z : 128 + (c - 128) ≡ c = omega arith in
      record {
        char = v;
        bytes = (224 + (a - 224)) ∷ (128 + (b - 128)) ∷ (128 + (c - 128)) ∷ [];
        rest = s;
        good = and_right (leb 2048 v) (legal_character v) r;
        spelt = three {x = a - 224} {y = b - 128} {z = c - 128} refl (omega arith) (omega arith) (omega arith)
            (leb-true 2048 v (and_left (leb 2048 v) (legal_character v) r));
        split = rw (x, y, z);
        long = e;
      }

four_sound : (a k : ℕ) (s : List ℕ) → 240 ≤ a → a < 248 → four_in a s ≡ suc k → Found false (a ∷ s) (suc k)
unfolding four_in valid_four
four_sound a k [] g h e = never e
four_sound a k (b ∷ []) g h e = never e
four_sound a k (b ∷ c ∷ []) g h e = never e
four_sound a k (b ∷ c ∷ i ∷ s) g h e = by (valid_four a b c i) refl e where
  by : (q : Bool) → valid_four a b c i ≡ q → cond q 4 0 ≡ suc k → Found false (a ∷ b ∷ c ∷ i ∷ s) (suc k)
  by false f e = never e
  by true f e =
      let v = (a - 240) * 262144 + ((b - 128) * 4096 + ((c - 128) * 64 + (i - 128))) in
      let fb = and_left (follows b) (follows c && (follows i && (leb 65536 v && legal_character v))) f in
      let f1 = and_right (follows b) (follows c && (follows i && (leb 65536 v && legal_character v))) f in
      let fc = and_left (follows c) (follows i && (leb 65536 v && legal_character v)) f1 in
      let f2 = and_right (follows c) (follows i && (leb 65536 v && legal_character v)) f1 in
      let fi = and_left (follows i) (leb 65536 v && legal_character v) f2 in
      let r = and_right (follows i) (leb 65536 v && legal_character v) f2 in
      let lo = follows_low b fb in
      let hi = follows_high b fb in
      let lo2 = follows_low c fc in
      let hi2 = follows_high c fc in
      let lo3 = follows_low i fi in
      let hi3 = follows_high i fi in
      let x : 240 + (a - 240) ≡ a = omega arith in
      let y : 128 + (b - 128) ≡ b = omega arith in
      let z : 128 + (c - 128) ≡ c = omega arith in
      let w : 128 + (i - 128) ≡ i = omega arith in
      record {
        char = v;
        bytes = (240 + (a - 240)) ∷ (128 + (b - 128)) ∷ (128 + (c - 128)) ∷ (128 + (i - 128)) ∷ [];
        rest = s;
        good = and_right (leb 65536 v) (legal_character v) r;
        spelt = four {x = a - 240} {y = b - 128} {z = c - 128} {w = i - 128} refl (omega arith) (omega arith) (omega arith) (omega arith)
            (leb-true 65536 v (and_left (leb 65536 v) (legal_character v) r));
        split = rw (x, y, z, w);
        long = e;
      }

long_sound : (a k : ℕ) (s : List ℕ) → long_of a s ≡ suc k → Found false (a ∷ s) (suc k)
unfolding long_of
long_sound a k s e = by (ltb a 192) (ltb a 224) (ltb a 240) (ltb a 248) refl refl refl refl e where
  by : (p q r t : Bool) → ltb a 192 ≡ p → ltb a 224 ≡ q → ltb a 240 ≡ r → ltb a 248 ≡ t
      → cond p 0 (cond q (two_in a s) (cond r (three_in a s) (cond t (four_in a s) 0))) ≡ suc k → Found false (a ∷ s) (suc k)
  by true q r t f g h i e = never e
  by false true r t f g h i e = two_sound a k s (ltb-false a 192 f) (ltb-true a 224 g) e
  by false false true t f g h i e = three_sound a k s (ltb-false a 224 g) (ltb-true a 240 h) e
  by false false false true f g h i e = four_sound a k s (ltb-false a 240 h) (ltb-true a 248 i) e
  by false false false false f g h i e = never e

plain_spelt : (l : Bool) (a : ℕ) → plain_of l a ≡ true → Spelt l a (a ∷ [])
unfolding plain_of
plain_spelt true a e = latin (ltb-true a 256 (and_right (legal_character a) (ltb a 256) e))
plain_spelt false a e = one (ltb-true a 128 (and_right (legal_character a) (ltb a 128) e))

plain_legal : (l : Bool) (a : ℕ) → plain_of l a ≡ true → legal_character a ≡ true
unfolding plain_of
plain_legal l a e = and_left (legal_character a) (ltb a (cond l 256 128)) e

pub width_sound : (l : Bool) (k : ℕ) (s : List ℕ) → character_width l s ≡ suc k → Found l s (suc k)
unfolding character_width
width_sound l k [] e = never e
width_sound l k (a ∷ s) e = by l (plain_of l a) refl e where
  by : (l : Bool) (q : Bool) → plain_of l a ≡ q → cond q 1 (cond l 0 (long_of a s)) ≡ suc k → Found l (a ∷ s) (suc k)
  by l true f e = record { char = a; bytes = a ∷ []; rest = s; good = plain_legal l a f; spelt = plain_spelt l a f; split = refl; long = e }
  by true false f e = never e
  by false false f e = long_sound a k s e

-- ---- from character to character
spelt_long : {l : Bool} {c : ℕ} {u : List ℕ} → Spelt l c u → length u ≡ 0 → ⊥
spelt_long (latin h) e = omega arith
spelt_long (one h) e = omega arith
spelt_long (two e h k m) z = omega arith
spelt_long (three e h k i m) z = omega arith
spelt_long (four e h k i j m) z = omega arith

none_at : (l : Bool) (s : List ℕ) → character_width l s ≡ 0 → NoneAt l s
none_at l s e c u t q w f = spelt_long w (sym (width_complete t q w) ∙ ap (character_width l) (sym f) ∙ e)

at_none : (l : Bool) (s : List ℕ) → NoneAt l s → character_width l s ≡ 0
at_none l s n = by (character_width l s) refl where
  by : (w : ℕ) → character_width l s ≡ w → character_width l s ≡ 0
  by zero e = e
  by (suc k) e = let f = width_sound l k s e in absurd (n f.char f.bytes f.rest f.good f.spelt f.split)

module _ (l : Bool) (d : List ℕ) where
  onward : (p n : ℕ) (u t : List ℕ) → drop p d ≡ u ++ t → length u ≡ n → drop (p + n) d ≡ t
  onward p n u t e f = sym (drop-drop n p d) ∙ ap (drop n) e ∙ drop_at u t n f

  complete : (q : ℕ) {cs u : List ℕ} → Chars l cs u → (p : ℕ) → drop p d ≡ u ++ drop q d → q ≡ p + length u → NoneAt l (drop q d)
      → first_bad l d p ≡ q
  complete q none p e f n =
      let g : q ≡ p = omega arith in
      bad_here l d p (at_none l (drop p d) (rw (← g) n)) ∙ sym g
  complete q (more {c} {cs} {u} {s} k w r) p e f n =
      let a = e ∙ append_assoc u s (drop q d) in
      let x : character_width l (drop p d) ≡ length u = ap (character_width l) a ∙ width_complete (s ++ drop q d) k w in
      let f' : q ≡ p + length u + length s = omega (arith, length-append u s) in
      bad_next l d p (λ z. spelt_long w (sym x ∙ z))
      ∙ rw x (complete q r (p + length u) (onward p (length u) u (s ++ drop q d) a refl) f' n)

  here : (p : ℕ) → character_width l (drop p d) ≡ 0 → Cut l d p (first_bad l d p)
  here p e =
      let b = bad_here l d p e in
      rw b (record { chars = []; bytes = []; legals = none; split = refl; place = omega arith; over = none_at l (drop p d) e })

  -- a character, and what follows it
  then : (p k : ℕ) → Found l (drop p d) (suc k) → first_bad l d p ≡ first_bad l d (p + suc k)
      → Cut l d (p + suc k) (first_bad l d (p + suc k))
      → Cut l d p (first_bad l d p)
  then p k f b c =
      let o : drop (p + suc k) d ≡ f.rest = onward p (suc k) f.bytes f.rest f.split f.long in
      let x = f.long in
      let y = c.place in
      rw b (record {
        chars = f.char ∷ c.chars;
        bytes = f.bytes ++ c.bytes;
        legals = more f.good f.spelt c.legals;
        split = f.split ∙ ap (λ (t : List ℕ). f.bytes ++ t) (sym o ∙ c.split) ∙ sym (append_assoc f.bytes c.bytes _);
        place = omega (arith, length-append f.bytes c.bytes);
        over = c.over;
      })

  sound : (n p : ℕ) → length d - p ≤ n → p ≤ length d → Cut l d p (first_bad l d p)
  sound zero p h i = here p (none_left (character_width l (drop p d)) (width_within l (drop p d))) where
    none_left : (w : ℕ) → w ≤ length (drop p d) → w ≡ 0
    none_left w k = omega (arith, length-drop p d)
  sound (suc n) p h i = by (sound n) (character_width l (drop p d)) refl where
    by : ((p : ℕ) → length d - p ≤ n → p ≤ length d → Cut l d p (first_bad l d p)) → (w : ℕ) → character_width l (drop p d) ≡ w
        → Cut l d p (first_bad l d p)
    by ih zero e = here p e
    by ih (suc k) e =
        let b : first_bad l d p ≡ first_bad l d (p + suc k) = bad_next l d p (λ z. never (sym z ∙ e)) ∙ rw e in
        let w = width_within l (drop p d) in
        let m = length-drop p d in
        then p k (width_sound l k (drop p d) e) b (ih (p + suc k) (omega arith) (omega arith))

-- CUT: the answer is the place up to which the bytes are legal characters, and at which no legal character's bytes begin
pub utf_exactly : (l : Bool) (d : List ℕ) (p q : ℕ) → p ≤ length d → (first_bad l d p ≡ q) ↔ Cut l d p q
utf_exactly l d p q h =
    (λ e. rw (← e) (sound l d (length d) p (omega arith) h), λ c. complete l d q c.legals p c.split c.place c.over)
