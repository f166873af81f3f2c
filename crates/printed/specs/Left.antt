-- WHAT IS LEFT TO READ, as bytes: the kept bytes from a place of the file on, their places forgotten. A printed text is met so: line ends
-- are not there, and no place is reckoned with.
use Rattle.std.specs.Prelude.{◌≡◌, Bool, true, false, cond, eqb, ltb, length}
use Rattle.std.proofs.Math.Path.{refl, sym, ap}
use Rattle.std.proofs.Common.{◌∙◌, arith, eqb-true, ltb-true, ltb-false}
use mathlib.Core.List.{List, [], ◌∷◌, ◌++◌}
use Prim.Native.Nat.{ℕ, zero, suc, ◌+◌, ◌-◌, ◌<◌}
use Rattle.std.proofs.Math.ListN.{get_or}
use Rattle.std.proofs.lemmas.Bool.{eqb-false}
use Rattle.ascii.specs.rule.Class.{class_of}
use Rattle.scan.specs.rule.Text.{Text, stop, sign, kept, text}
use Rattle.scan.proofs.Texts.{text_end, text_dropped, text_kept}

pub no : {A : Type 0} → false ≡ true → A
no e = let z : ◌≡◌ {A = ℕ} 0 1 = cc in absurd (omega arith)

-- ---- the bytes of a text, and the bytes of a list that are kept
unfoldable pub bytes_in : Text → List ℕ
bytes_in (stop p) = []
bytes_in (sign p b t) = b ∷ bytes_in t

unfoldable pub sieve : List ℕ → List ℕ
sieve [] = []
sieve (b ∷ s) = let rest = sieve s in cond (eqb (class_of b) 0) rest (b ∷ rest)

pub bytes_kept : (m : ℕ) (s : List ℕ) → bytes_in (kept m s) ≡ sieve s
unfolding bytes_in sieve kept
bytes_kept m [] = refl
bytes_kept m (b ∷ s) = by (eqb (class_of b) 0) (bytes_kept (m + 1) s) where
  by : (q : Bool) → bytes_in (kept (m + 1) s) ≡ sieve s
      → bytes_in (cond q (kept (m + 1) s) (sign m b (kept (m + 1) s))) ≡ cond q (sieve s) (b ∷ sieve s)
  by true e = e
  by false e = ap (λ (x : List ℕ). b ∷ x) e

pub sieve_append : (s u : List ℕ) → sieve (s ++ u) ≡ sieve s ++ sieve u
unfolding sieve
sieve_append [] u = refl
sieve_append (b ∷ s) u = by (eqb (class_of b) 0) (sieve_append s u) where
  by : (q : Bool) → sieve (s ++ u) ≡ sieve s ++ sieve u
      → cond q (sieve (s ++ u)) (b ∷ sieve (s ++ u)) ≡ cond q (sieve s) (b ∷ sieve s) ++ sieve u
  by true e = e
  by false e = ap (λ (x : List ℕ). b ∷ x) e

-- ---- every byte of a list passes
unfoldable pub each : (ℕ → Bool) → List ℕ → Bool
each f [] = true
each f (b ∷ s) = cond (f b) (each f s) false

pub both : (f : ℕ → Bool) (b : ℕ) (s : List ℕ) → each f (b ∷ s) ≡ true → (f b ≡ true) × (each f s ≡ true)
unfolding each
both f b s = by (f b) refl where
  by : (q : Bool) → f b ≡ q → cond q (each f s) false ≡ true → (f b ≡ true) × (each f s ≡ true)
  by true e h = (e, h)
  by false e h = no h

pub each_cons : (f : ℕ → Bool) (b : ℕ) (s : List ℕ) → f b ≡ true → each f s ≡ true → each f (b ∷ s) ≡ true
unfolding each
each_cons f b s e h = rw e h

pub each_append : (f : ℕ → Bool) (s u : List ℕ) → each f s ≡ true → each f u ≡ true → each f (s ++ u) ≡ true
each_append f [] u e h = h
each_append f (b ∷ s) u e h = let c = both f b s e in each_cons f b (s ++ u) c.0 (each_append f s u c.1 h)

pub each_as : (f g : ℕ → Bool) → ((b : ℕ) → f b ≡ true → g b ≡ true) → (s : List ℕ) → each f s ≡ true → each g s ≡ true
unfolding each
each_as f g k [] e = refl
each_as f g k (b ∷ s) e = let c = both f b s e in each_cons g b s (k b c.0) (each_as f g k s c.1)

-- a byte that is not dropped
unfoldable pub plain : ℕ → Bool
plain b = cond (eqb (class_of b) 0) false true

pub sieve_plain : (s : List ℕ) → each plain s ≡ true → sieve s ≡ s
unfolding sieve plain
sieve_plain [] h = refl
sieve_plain (b ∷ s) h = let c = both plain b s h in by (eqb (class_of b) 0) c.0 (sieve_plain s c.1) where
  by : (q : Bool) → cond q false true ≡ true → sieve s ≡ s → cond q (sieve s) (b ∷ sieve s) ≡ b ∷ s
  by true e i = no e
  by false e i = ap (λ (x : List ℕ). b ∷ x) i

pub plain_byte : (b : ℕ) → (class_of b ≡ 0 → ⊥) → plain b ≡ true
unfolding plain
plain_byte b h = by (eqb (class_of b) 0) refl where
  by : (q : Bool) → eqb (class_of b) 0 ≡ q → cond q false true ≡ true
  by true e = absurd (h (eqb-true (class_of b) 0 e))
  by false e = refl

module _ (p : List ℕ) where
  -- from n on the bytes u are left
  abbrev pub Left : ℕ → List ℕ → Type 0
  Left n u = bytes_in (text p n) ≡ u

  pub left_all : Left 0 (sieve p)
  unfolding text
  left_all = bytes_kept 0 p

  -- ---- the next byte, and its place
  pub record Step (n b : ℕ) (u : List ℕ) : Type 0 where
    pub place : ℕ
    pub same : text p n ≡ text p place
    pub there : text p place ≡ sign place b (text p (place + 1))
    pub left : Left (place + 1) u

  step_by : (b : ℕ) (u : List ℕ) (f n : ℕ) → length p - n < f → Left n (b ∷ u) → Step n b u
  unfolding bytes_in
  step_by b u zero n h e = absurd (omega arith)
  step_by b u (suc f) n h e = by (ltb n (length p)) (eqb (class_of (get_or p n 0)) 0) refl refl (step_by b u f (n + 1)) where
    at : text p n ≡ sign n (get_or p n 0) (text p (n + 1)) → Step n b u
    at i =
        let j : get_or p n 0 ∷ bytes_in (text p (n + 1)) ≡ b ∷ u = sym (ap bytes_in i) ∙ e in
        let k : get_or p n 0 ≡ b = cc in
        let l : bytes_in (text p (n + 1)) ≡ u = cc in
        record { place = n; same = refl; there = rw k at i; left = l }

    ends : text p n ≡ stop n → Step n b u
    ends i = let j : [] ≡ b ∷ u = sym (ap bytes_in i) ∙ e in let z : ◌≡◌ {A = ℕ} 0 1 = cc in absurd (omega arith)

    on : text p n ≡ text p (n + 1) → Step (n + 1) b u → Step n b u
    on i s = record { place = s.place; same = i ∙ s.same; there = s.there; left = s.left }

    by : (x y : Bool) → ltb n (length p) ≡ x → eqb (class_of (get_or p n 0)) 0 ≡ y
        → (length p - (n + 1) < f → Left (n + 1) (b ∷ u) → Step (n + 1) b u) → Step n b u
    by false y g k ih = ends (text_end p n (ltb-false n (length p) g))
    by true true g k ih =
        let l = ltb-true n (length p) g in
        let i = text_dropped p n l (eqb-true _ _ k) in
        on i (ih (omega arith) (rw i at e))
    by true false g k ih = at (text_kept p n (ltb-true n (length p) g) (eqb-false _ _ k))

  pub step_of : {n b : ℕ} {u : List ℕ} → Left n (b ∷ u) → Step n b u
  step_of {n} {b} {u} e = step_by b u (suc (length p - n)) n (omega arith) e

  -- a step's byte is left at its place
  pub step_left : {n b : ℕ} {u : List ℕ} (s : Step n b u) → Left s.place (b ∷ u)
  unfolding bytes_in
  step_left {b = b} s = ap bytes_in s.there ∙ ap (λ (x : List ℕ). b ∷ x) s.left

  -- ---- a thing stands from somewhere to m, and u is left behind it; the same of a thing that says a, with a fact of a
  pub data Ends (P : ℕ → Type 0) (u : List ℕ) : Type 0 where
    ends : {m : ℕ} → P m → Left m u → Ends P u

  pub data Yields {A : Type 0} (P : A → ℕ → Type 0) (R : A → Type 0) (u : List ℕ) : Type 0 where
    yields : {a : A} {m : ℕ} → P a m → R a → Left m u → Yields P R u

  -- one behind the other
  pub after : {P : ℕ → Type 0} {u : List ℕ} {C : Type 0} → Ends P u → ((m : ℕ) → P m → Left m u → C) → C
  after (ends {m = m} x l) k = k m x l

  pub taking : {A : Type 0} {P : A → ℕ → Type 0} {R : A → Type 0} {u : List ℕ} {C : Type 0} → Yields P R u
      → ((a : A) (m : ℕ) → P a m → R a → Left m u → C) → C
  taking (yields {a = a} {m = m} x r l) k = k a m x r l
