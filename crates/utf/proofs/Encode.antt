-- What is written for a character are its bytes; and no two characters' bytes begin alike.
use mathlib.Core.Path.{◌≡◌, refl, sym, ap, ◌∙◌}
use mathlib.Core.Bool.{Bool, true, false, cond}
use mathlib.Core.List.{List, [], ◌∷◌, ◌++◌}
use Prim.Native.Nat.{ℕ, ◌+◌, ◌/◌, ◌%◌, ◌≤◌, ◌<◌}
use native.Mathlib.Nat.{mod-lt, div-add-mod'}
use native.Mathlib.Omega.{arith}
use lib.Dec.{ltb}
use lib.ListN.{length, take}
use lib.Seq.{take_at}
use borrow.Author.Tests.{ltb-true, ltb-false, lt-ltb, le-ltb}
use Rattle.utf.specs.rule.Chars.{legal_character, Spelt, one, two, three, four, encode}
use Rattle.utf.specs.rule.Cut.{character_width}
use Rattle.utf.proofs.Exactly.{width_complete}

-- the bytes written for a number, by its size
pub encode_1 : (c : ℕ) → c < 128 → encode c ≡ c ∷ []
unfolding encode
encode_1 c h = rw (lt-ltb c 128 h)

pub encode_2 : (c : ℕ) → 128 ≤ c → c < 2048 → encode c ≡ (192 + c / 64) ∷ (128 + c % 64) ∷ []
unfolding encode
encode_2 c h k = rw (le-ltb c 128 h, lt-ltb c 2048 k)

pub encode_3 : (c : ℕ) → 2048 ≤ c → c < 65536 → encode c ≡ (224 + c / 64 / 64) ∷ (128 + c / 64 % 64) ∷ (128 + c % 64) ∷ []
unfolding encode
encode_3 c h k = rw (le-ltb c 128 (omega arith), le-ltb c 2048 h, lt-ltb c 65536 k)

pub encode_4 : (c : ℕ) → 65536 ≤ c → encode c ≡ (240 + c / 64 / 64 / 64) ∷ (128 + c / 64 / 64 % 64) ∷ (128 + c / 64 % 64) ∷ (128 + c % 64)
    ∷ []
unfolding encode
encode_4 c h = rw (le-ltb c 128 (omega arith), le-ltb c 2048 (omega arith), le-ltb c 65536 h)

-- ENCODE: the bytes written for a number below 2,097,152 (so for every character) are that number's
pub encode_spells : (c : ℕ) → c < 2097152 → Spelt false c (encode c)
unfolding encode
encode_spells c h = by (ltb c 128) (ltb c 2048) (ltb c 65536) refl refl refl where
  by : (p q r : Bool) → ltb c 128 ≡ p → ltb c 2048 ≡ q → ltb c 65536 ≡ r
      → Spelt false c (cond p (c ∷ []) (cond q ((192 + c / 64) ∷ (128 + c % 64) ∷ [])
      (cond r ((224 + c / 64 / 64) ∷ (128 + c / 64 % 64) ∷ (128 + c % 64) ∷ [])
      ((240 + c / 64 / 64 / 64) ∷ (128 + c / 64 / 64 % 64) ∷ (128 + c / 64 % 64) ∷ (128 + c % 64) ∷ []))))
  by true q r e f g = one (ltb-true c 128 e)
  by false true r e f g =
      let a = div-add-mod' c 64 in
      let b = mod-lt c {m = 64} (omega arith) in
      let i = ltb-false c 128 e in
      let j = ltb-true c 2048 f in
      two (sym a) (omega arith) b i
  by false false true e f g =
      let a = div-add-mod' c 64 in
      let b = mod-lt c {m = 64} (omega arith) in
      let k = div-add-mod' (c / 64) 64 in
      let l = mod-lt (c / 64) {m = 64} (omega arith) in
      let i = ltb-false c 2048 f in
      let j = ltb-true c 65536 g in
      three {c = c} {x = c / 64 / 64} {y = c / 64 % 64} {z = c % 64} (omega arith) (omega arith) l b i
  by false false false e f g =
      let a = div-add-mod' c 64 in
      let b = mod-lt c {m = 64} (omega arith) in
      let k = div-add-mod' (c / 64) 64 in
      let l = mod-lt (c / 64) {m = 64} (omega arith) in
      let m = div-add-mod' (c / 64 / 64) 64 in
      let n = mod-lt (c / 64 / 64) {m = 64} (omega arith) in
      let i = ltb-false c 65536 g in
      four {c = c} {x = c / 64 / 64 / 64} {y = c / 64 / 64 % 64} {z = c / 64 % 64} {w = c % 64} (omega arith) (omega arith) n l b i

-- ALONE: where two legal characters' bytes begin one text, they are the same bytes
pub begin_once : {l : Bool} {c c' : ℕ} {u u' : List ℕ} (t t' : List ℕ) → legal_character c ≡ true → legal_character c' ≡ true → Spelt l c u
    → Spelt l c' u' → u
    ++ t ≡ u' ++ t' → u ≡ u'
begin_once {l} {u = u} {u' = u'} t t' g g' s s' e =
    let n : length u ≡ length u' = sym (width_complete t g s) ∙ ap (character_width l) e ∙ width_complete t' g' s' in
    sym (take_at u t (length u) refl) ∙ ap (take (length u)) e ∙ take_at u' t' (length u) (sym n)
