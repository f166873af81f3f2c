-- Runs, given bytes and digits, one byte on.
use mathlib.Core.Path.{◌≡◌, refl, sym, ap, ◌∙◌}
use mathlib.Core.Bool.{Bool, true, false, cond}
use mathlib.Core.List.{List, [], ◌∷◌, ◌++◌}
use Prim.Native.Nat.{ℕ, ◌+◌, ◌≤◌, ◌<◌}
use native.Mathlib.Omega.{arith}
use lib.Dec.{ltb}
use lib.ListN.{length, drop, get_or, drop_of_length-le, length-drop}
use lib.Seq.{drop-drop, drop_at, get_or-drop}
use borrow.Author.Tests.{eq-eqb, ne_eqb, ltb-true, ltb-false, le-ltb}
use Rattle.utf.proofs.Strides.{drop_1}
use Rattle.markup.specs.rule.Bytes.{of_kind, run_of, bytes_while, rest_of, stands}
use Rattle.markup.specs.rule.Grammar.{Each, no_more, each}
use Rattle.markup.specs.rule.Reference.{push_of, reference_number, held_below, digit_kind, reference_figure}

-- ---- bytes that stand at a place: the first of them, and what follows them
pub first_at : (d : List ℕ) (p b : ℕ) (t : List ℕ) → drop p d ≡ b ∷ t → (p < length d) × (get_or d p 0 ≡ b)
first_at d p b t e =
    let l = ap length e in
    let n = length-drop p d in
    let g = get_or-drop p d 0 0 in
    let z : p + 0 ≡ p = omega arith in
    (omega arith, sym (rw z at g) ∙ ap (λ (x : List ℕ). get_or x 0 0) e)

pub onward : (d : List ℕ) (p n : ℕ) (u t : List ℕ) → drop p d ≡ u ++ t → length u ≡ n → drop (p + n) d ≡ t
onward d p n u t e f = sym (drop-drop n p d) ∙ ap (drop n) e ∙ drop_at u t n f

-- ---- runs
module _ (f : ℕ → Bool) (d : List ℕ) (p : ℕ) where
  pub run_next : p < length d → f (get_or d p 0) ≡ true → run_of f p (drop p d) ≡ run_of f (p + 1) (drop (p + 1) d)
  unfolding run_of
  run_next h e = rw (drop_1 d p h, e)

  pub run_over : p < length d → f (get_or d p 0) ≡ false → run_of f p (drop p d) ≡ p
  unfolding run_of
  run_over h e = rw (drop_1 d p h, e)

  pub run_end : length d ≤ p → run_of f p (drop p d) ≡ p
  unfolding run_of
  run_end h = rw (drop_of_length-le d h)

pub tail_at : (d : List ℕ) (p x : ℕ) (s : List ℕ) → drop p d ≡ x ∷ s → drop (p + 1) d ≡ s
tail_at d p x s e = sym (drop-drop 1 p d) ∙ ap (drop 1) e

-- what follows a run is what the file holds from the place after it on
rest_on : (f : ℕ → Bool) (d : List ℕ) (s : List ℕ) (p : ℕ) → drop p d ≡ s → drop (run_of f p s) d ≡ rest_of f s
unfolding run_of rest_of
rest_on f d [] p e = e
rest_on f d (b ∷ s) p e = by (f b) (rest_on f d s (p + 1) (tail_at d p b s e)) where
  by : (q : Bool) → drop (run_of f (p + 1) s) d ≡ rest_of f s → drop (cond q (run_of f (p + 1) s) p) d ≡ cond q (rest_of f s) (b ∷ s)
  by true i = i
  by false i = e

pub rest_at : (f : ℕ → Bool) (d : List ℕ) (p : ℕ) → drop (run_of f p (drop p d)) d ≡ rest_of f (drop p d)
rest_at f d p = rest_on f d (drop p d) p refl

-- a run and what follows it, and how far it goes
pub run_splits : (f : ℕ → Bool) (s : List ℕ) → s ≡ bytes_while f s ++ rest_of f s
unfolding bytes_while rest_of
run_splits f [] = refl
run_splits f (b ∷ s) = by (f b) (run_splits f s) where
  by : (q : Bool) → s ≡ bytes_while f s ++ rest_of f s → b ∷ s ≡ cond q (b ∷ bytes_while f s) [] ++ cond q (rest_of f s) (b ∷ s)
  by true i = ap (λ (t : List ℕ). b ∷ t) i
  by false i = refl

pub each_bytes : (f : ℕ → Bool) (s : List ℕ) → Each f (bytes_while f s)
unfolding bytes_while
each_bytes f [] = no_more
each_bytes f (b ∷ s) = by (f b) refl (each_bytes f s) where
  by : (q : Bool) → f b ≡ q → Each f (bytes_while f s) → Each f (cond q (b ∷ bytes_while f s) [])
  by true e r = each e r
  by false e r = no_more

pub run_long : (f : ℕ → Bool) (p : ℕ) (s : List ℕ) → run_of f p s ≡ p + length (bytes_while f s)
unfolding run_of bytes_while
run_long f p [] = omega arith
run_long f p (b ∷ s) = by (f b) (run_long f (p + 1) s) where
  by : (q : Bool) → run_of f (p + 1) s ≡ p + 1 + length (bytes_while f s) → cond q (run_of f (p + 1) s) p ≡ p
      + length (cond q (b ∷ bytes_while f s) [])
  by true i = i ∙ omega arith
  by false i = omega arith

-- ---- given bytes
module _ (d : List ℕ) (at : ℕ) (w : List ℕ) (i : ℕ) where
  pub stands_next : at + i < length d → i < length w → get_or d (at + i) 0 ≡ get_or w i 0 → stands (drop i w) (drop (at + i) d)
      ≡ stands (drop (i + 1) w) (drop (at + (i + 1)) d)
  unfolding stands
  stands_next h k e =
      let n : at + i + 1 ≡ at + (i + 1) = omega arith in
      rw (drop_1 w i k, drop_1 d (at + i) h, eq-eqb _ _ e, n)

  pub stands_not : at + i < length d → i < length w → (get_or d (at + i) 0 ≡ get_or w i 0 → ⊥) → stands (drop i w) (drop (at + i) d) ≡ false
  unfolding stands
  stands_not h k e = rw (drop_1 w i k, drop_1 d (at + i) h, ne_eqb _ _ e)

  pub stands_whole : length w ≤ i → stands (drop i w) (drop (at + i) d) ≡ true
  unfolding stands
  stands_whole h = rw (drop_of_length-le w h)

-- ---- digits
grows : (hex : Bool) (v b : ℕ) → v ≤ push_of hex v b
unfolding push_of
grows true v b = omega arith
grows false v b = omega arith

number_grows : (hex : Bool) (v : ℕ) (s : List ℕ) → v ≤ reference_number hex v s
unfolding reference_number
number_grows hex v [] = omega arith
number_grows hex v (b ∷ s) = omega (arith, grows hex v b, number_grows hex (push_of hex v b) s)

full : (n : ℕ) → 2000000 ≤ n → held_below n ≡ 2000000
unfolding held_below
full n h = by (ltb 2000000 n) refl where
  by : (q : Bool) → ltb 2000000 n ≡ q → cond q 2000000 n ≡ 2000000
  by true e = refl
  by false e = omega (arith, ltb-false 2000000 n e)

pub small : (n : ℕ) → n ≤ 2000000 → held_below n ≡ n
unfolding held_below
small n h = rw (le-ltb 2000000 n h)

-- a number that is held before its last digits is held after them
pub held : (hex : Bool) (v : ℕ) (s : List ℕ) → held_below (reference_number hex (held_below v) s) ≡ held_below (reference_number hex v s)
held hex v s = by (ltb 2000000 v) refl where
  by : (q : Bool) → ltb 2000000 v ≡ q → held_below (reference_number hex (held_below v) s) ≡ held_below (reference_number hex v s)
  by false e = rw (small v (ltb-false 2000000 v e))
  by true e =
      let h = ltb-true 2000000 v e in
      rw (full v (omega arith))
      (full (reference_number hex 2000000 s) (number_grows hex 2000000 s)
      ∙ sym (full (reference_number hex v s) (omega (arith, number_grows hex v s))))

module _ (hex : Bool) (v : ℕ) (d : List ℕ) (p : ℕ) where
  pub figure_next : p < length d → of_kind (digit_kind hex) (get_or d p 0) ≡ true
      → reference_figure hex v p (drop p d) ≡ reference_figure hex (held_below (push_of hex v (get_or d p 0))) (p + 1) (drop (p + 1) d)
  unfolding reference_figure run_of bytes_while reference_number
  figure_next h e = rw (drop_1 d p h, e) (rw (held hex (push_of hex v (get_or d p 0))
      (bytes_while (of_kind (digit_kind hex)) (drop (p + 1) d))))

  pub figure_over : p < length d → of_kind (digit_kind hex) (get_or d p 0) ≡ false → v ≤ 2000000 → reference_figure hex v p (drop p d)
      ≡ record { value = v; next = p }
  unfolding reference_figure run_of bytes_while reference_number
  figure_over h e k = rw (drop_1 d p h, e, small v k)

  pub figure_end : length d ≤ p → v ≤ 2000000 → reference_figure hex v p (drop p d) ≡ record { value = v; next = p }
  unfolding reference_figure run_of bytes_while reference_number
  figure_end h k = rw (drop_of_length-le d h, small v k)
