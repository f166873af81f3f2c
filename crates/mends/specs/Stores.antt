-- Stores one behind the other: what is stored in two runs is stored in one.
use Rattle.std.specs.Prelude.{◌≡◌, refl, List, [], ◌∷◌, ◌++◌, ℕ, suc, ◌+◌, ◌≤◌, ◌<◌, length, set, drop}
use Rattle.std.proofs.Common.{sym, ap, ◌∙◌, append-nil, arith, drop_of_length-le, length-append, set-set}
use Rattle.std.proofs.lemmas.List.Edits.{sets, sets-eq}
use Rattle.std.proofs.lemmas.List.{set_comm}
use Rattle.places.specs.rule.Places.{put, run}

module _ {A : Type 0} where
  pub sets_append : (l : List A) (k : ℕ) (a b : List A) → sets l k (a ++ b) ≡ sets (sets l k a) (k + length a) b
  sets_append l k [] b = let e : k + 0 ≡ k = omega arith in rw e
  sets_append l k (x ∷ a) b = let e : k + suc (length a) ≡ suc k + length a = omega arith in rw e (sets_append (set l k x) (suc k) a b)

  -- from the start: the new ones, and behind them what stood there
  pub sets_front : (l new : List A) → length new ≤ length l → sets l 0 new ≡ new ++ drop (length new) l
  sets_front l new h = let e : 0 + length new ≡ length new = omega arith in rw e at (sets-eq new l 0 (rw e h))

  -- stored once more: nothing changes
  set_below : (l : List A) (i k : ℕ) (x : A) (a : List A) → i < k → set (sets l k a) i x ≡ sets (set l i x) k a
  set_below l i k x [] h = refl
  set_below l i k x (y ∷ a) h =
      set_below (set l k y) i (suc k) x a (omega arith)
      ∙ ap (λ (m : List A). sets m (suc k) a) (set_comm l k i y x (λ e. absurd (omega arith)))

  sets_twice : (l : List A) (k : ℕ) (a : List A) → sets (sets l k a) k a ≡ sets l k a
  sets_twice l k [] = refl
  sets_twice l k (x ∷ a) =
      ap (λ (m : List A). sets m (suc k) a)
      (set_below (set l k x) k (suc k) x a (omega arith) ∙ ap (λ (m : List A). sets m (suc k) a) (set-set l k x x))
      ∙ sets_twice (set l k x) (suc k) a

  -- what is stored anew, and what lies behind it
  pub sets_over : (l : List A) (k : ℕ) (a b c : List A) → sets (sets l k (a ++ b)) (k + length a) (b ++ c) ≡ sets l k (a ++ b ++ c)
  sets_over l k a b c =
      let m : List A = sets l k a in
      let p : ℕ = k + length a in
      let e : k + length (a ++ b) ≡ p + length b = rw (length-append a b) (omega arith) in
      ap (λ (x : List A). sets x p (b ++ c)) (sets_append l k a b)
      ∙ sets_append (sets m p b) p b c
      ∙ ap (λ (x : List A). sets x (p + length b) c) (sets_twice m p b ∙ sym (sets_append l k a b))
      ∙ ap (λ (n : ℕ). sets (sets l k (a ++ b)) n c) (sym e)
      ∙ sym (sets_append l k (a ++ b) c)

  -- all places of a list
  pub sets_all : (l new : List A) → length new ≡ length l → sets l 0 new ≡ new
  sets_all l new e = sets_front l new (omega arith) ∙ rw (drop_of_length-le l {i = length new} (omega arith)) (append-nil new)

-- bytes put at a run of places are stores one behind the other
pub put_sets : (l : List ℕ) (at : ℕ) (vs : List ℕ) (n : ℕ) → length vs ≡ n → put l (run at n) vs ≡ sets l at vs
put_sets l at [] n e = rw (sym e)
put_sets l at (v ∷ vs) n e = rw (sym e) (put_sets (set l at v) (suc at) vs (length vs) refl)
