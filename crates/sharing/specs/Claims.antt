-- Places claimed for a row: each gets the row's stamp, unless it has another's. What holds of one place, and of places after places.
use Rattle.std.specs.Prelude.{◌≡◌, Bool, cond, not, ◌&&◌, ◌||◌, ℕ, ◌<◌, eqb, length, get_or, set}
use Rattle.std.proofs.Math.Path.{refl}
use Rattle.std.proofs.Common.{sym, ◌∙◌, eqb-true, eq-eqb, ne_eqb, get_or-set_same, get_or-set_other}
use Rattle.std.proofs.Math.Bool.{true, false}
use mathlib.Core.List.{List, [], ◌∷◌, ◌++◌}
use Rattle.std.proofs.lemmas.Bool.{eqb-false}
use Rattle.below.specs.Below.{and_true, and_left, and_right, same_bool, holds_not, or_true}
use Rattle.sharing.specs.rule.Sharing.{is_out}

-- ---- a place among places
pub out_both : (q : ℕ) (ps qs : List ℕ) → is_out q (ps ++ qs) ≡ (is_out q ps && is_out q qs)
unfolding is_out
out_both q [] qs = refl
out_both q (p ∷ ps) qs = go (eqb q p) (out_both q ps qs)
  where
    go : (b : Bool) → is_out q (ps ++ qs) ≡ (is_out q ps && is_out q qs)
        → (not b && is_out q (ps ++ qs)) ≡ ((not b && is_out q ps) && is_out q qs)
    go true e = refl
    go false e = e

-- two tests that fail together are one test
pub same_fails : (x y : Bool) → (x ≡ false → y ≡ false) → (y ≡ false → x ≡ false) → x ≡ y
same_fails true true f g = refl
same_fails true false f g = g refl
same_fails false y f g = sym (f refl)

pub by_cases : {A : Type 0} (b : Bool) → (b ≡ true → A) → (b ≡ false → A) → A
by_cases true f g = f refl
by_cases false f g = g refl

pub none_out : {A : Type 0} (q : ℕ) → is_out q [] ≡ false → A
unfolding is_out
none_out q e = holds_not refl e

-- a place that is one of them
pub out_cases : {A : Type 0} (q p : ℕ) (ps : List ℕ) → is_out q (p ∷ ps) ≡ false → (q ≡ p → A) → (is_out q ps ≡ false → A) → A
unfolding is_out
out_cases q p ps e f g = by_cases (eqb q p) (λ z. f (eqb-true q p z)) (λ z. g (rw z at e))

pub out_here : (p : ℕ) (ps : List ℕ) → is_out p (p ∷ ps) ≡ false
unfolding is_out
out_here p ps = rw (eq-eqb p p refl)

pub out_there : (q p : ℕ) (ps : List ℕ) → is_out q ps ≡ false → is_out q (p ∷ ps) ≡ false
unfolding is_out
out_there q p ps e = go (not (eqb q p))
  where
    go : (b : Bool) → (b && is_out q ps) ≡ false
    go true = e
    go false = refl

-- ---- stamps
-- a stamp lets the row own take the place: none, or the row's own
abbrev pub free : ℕ → ℕ → Bool
free own x = eqb x 0 || eqb x own

unfoldable pub all_free : ℕ → List ℕ → List ℕ → Bool
all_free own s [] = true
all_free own s (p ∷ ps) = free own (get_or s p 0) && all_free own s ps

-- the places ps claimed: the answer, and where it is yes the stamps after it
pub record Claimed (own : ℕ) (ps s s' : List ℕ) (r : Bool) : Type 0 where
  pub says : r ≡ all_free own s ps
  pub leaves : r ≡ true → (q : ℕ) → get_or s' q 0 ≡ cond (is_out q ps) (get_or s q 0) own

module _ (own : ℕ) (s : List ℕ) where
  pub free_of : (ps : List ℕ) → ((q : ℕ) → is_out q ps ≡ false → free own (get_or s q 0) ≡ true) → all_free own s ps ≡ true
  unfolding all_free
  free_of [] f = refl
  free_of (p ∷ ps) f = and_true _ _ (f p (out_here p ps)) (free_of ps (λ q e. f q (out_there q p ps e)))

  pub free_at : (ps : List ℕ) → all_free own s ps ≡ true → (q : ℕ) → is_out q ps ≡ false → free own (get_or s q 0) ≡ true
  unfolding all_free
  free_at [] e q o = none_out q o
  free_at (p ∷ ps) e q o =
      out_cases q p ps o
      (λ z. rw z (and_left (free own (get_or s p 0)) (all_free own s ps) e))
      (λ z. free_at ps (and_right (free own (get_or s p 0)) (all_free own s ps) e) q z)

  free_both : (ps qs : List ℕ) → all_free own s (ps ++ qs) ≡ (all_free own s ps && all_free own s qs)
  unfolding all_free
  free_both [] qs = refl
  free_both (p ∷ ps) qs = go (free own (get_or s p 0)) (free_both ps qs)
    where
      go : (b : Bool) → all_free own s (ps ++ qs) ≡ (all_free own s ps && all_free own s qs)
          → (b && all_free own s (ps ++ qs)) ≡ ((b && all_free own s ps) && all_free own s qs)
      go true e = e
      go false e = refl

-- ---- laws of claims
pub claim_none : (own : ℕ) (s : List ℕ) → Claimed own [] s s true
unfolding is_out all_free
claim_none own s = record { says = refl; leaves = λ e q. refl }

-- places that are refused refuse what comes behind them
pub claim_stop : {own : ℕ} {ps s s' s'' : List ℕ} (qs : List ℕ) → Claimed own ps s s' false → Claimed own (ps ++ qs) s s'' false
claim_stop {own} {ps} {s} qs c = record {
  says = sym (free_both own s ps qs ∙ rw (← c.says));
  leaves = λ e q. holds_not e refl;
}

own_free : (own : ℕ) → free own own ≡ true
own_free own = rw (eq-eqb own own refl) (or_true (eqb own 0))

-- after a claim the same places are free as before
still_free : {own : ℕ} {ps s s' : List ℕ} → Claimed own ps s s' true → (q : ℕ) → free own (get_or s' q 0) ≡ free own (get_or s q 0)
still_free {own} {ps} {s} {s'} c q = go (is_out q ps) refl (c.leaves refl q)
  where
    go : (b : Bool) → is_out q ps ≡ b → get_or s' q 0 ≡ cond b (get_or s q 0) own → free own (get_or s' q 0) ≡ free own (get_or s q 0)
    go true o e = rw e
    go false o e = rw e (own_free own ∙ sym (free_at own s ps (sym c.says) q o))

still_all : {own : ℕ} {ps s s' : List ℕ} → Claimed own ps s s' true → (qs : List ℕ) → all_free own s' qs ≡ all_free own s qs
unfolding all_free
still_all c [] = refl
still_all c (q ∷ qs) = rw (still_free c q, still_all c qs)

-- places after places
pub claim_both : {own : ℕ} {ps qs s s' s'' : List ℕ} {r : Bool} → Claimed own ps s s' true → Claimed own qs s' s'' r
    → Claimed own (ps ++ qs) s s'' r
claim_both {own} {ps} {qs} {s} {s'} {s''} {r} c d = record {
  says = d.says ∙ still_all c qs ∙ sym (free_both own s ps qs ∙ rw (← c.says));
  leaves = λ e q. d.leaves e q ∙ rw (c.leaves refl q, out_both q ps qs) (go (is_out q ps) (is_out q qs) q);
}
  where
    go : (a b : Bool) (q : ℕ) → cond b (cond a (get_or s q 0) own) own ≡ cond (a && b) (get_or s q 0) own
    go true b q = refl
    go false true q = refl
    go false false q = refl

-- the same places in another order, or some of them again
pub claim_same : {own : ℕ} {ps qs s s' : List ℕ} {r : Bool} → ((q : ℕ) → is_out q ps ≡ is_out q qs) → Claimed own ps s s' r
    → Claimed own qs s s' r
claim_same {own} {ps} {qs} {s} {s'} f c = record {
  says = c.says ∙ same_bool (all_free own s ps) (all_free own s qs)
      (λ e. free_of own s qs (λ q o. free_at own s ps e q (f q ∙ o)))
      (λ e. free_of own s ps (λ q o. free_at own s qs e q (sym (f q) ∙ o)));
  leaves = λ e q. c.leaves e q ∙ rw (f q);
}

-- ---- one place
one_says : (own : ℕ) (s : List ℕ) (p : ℕ) (b : Bool) → free own (get_or s p 0) ≡ b → b ≡ all_free own s (p ∷ [])
unfolding all_free
one_says own s p true e = rw e
one_says own s p false e = rw e

one_out : (q p : ℕ) → is_out q (p ∷ []) ≡ not (eqb q p)
unfolding is_out
one_out q p = go (not (eqb q p))
  where
    go : (b : Bool) → (b && true) ≡ b
    go true = refl
    go false = refl

-- a place without a stamp gets the row's
pub claim_new : (own : ℕ) (s : List ℕ) (p : ℕ) → p < length s → get_or s p 0 ≡ 0 → Claimed own (p ∷ []) s (set s p own) true
claim_new own s p h z = record {
  says = one_says own s p true (rw (eq-eqb (get_or s p 0) 0 z));
  leaves = λ e q. rw (one_out q p) (go q (eqb q p) refl);
}
  where
    go : (q : ℕ) (b : Bool) → eqb q p ≡ b → get_or (set s p own) q 0 ≡ cond (not b) (get_or s q 0) own
    go q true e = rw (eqb-true q p e) (get_or-set_same s p own 0 h)
    go q false e = get_or-set_other s p q own 0 (eqb-false q p e)

-- a place with the row's own keeps it
pub claim_own : (own : ℕ) (s : List ℕ) (p : ℕ) → get_or s p 0 ≡ own → Claimed own (p ∷ []) s s true
claim_own own s p z = record {
  says = one_says own s p true (rw (eq-eqb (get_or s p 0) own z) (or_true (eqb (get_or s p 0) 0)));
  leaves = λ e q. rw (one_out q p) (go q (eqb q p) refl);
}
  where
    go : (q : ℕ) (b : Bool) → eqb q p ≡ b → get_or s q 0 ≡ cond (not b) (get_or s q 0) own
    go q true e = rw (eqb-true q p e) z
    go q false e = refl

-- any other stamp refuses
pub claim_taken : (own : ℕ) (s : List ℕ) (p : ℕ) → (get_or s p 0 ≡ 0 → ⊥) → (get_or s p 0 ≡ own → ⊥) → Claimed own (p ∷ []) s s false
claim_taken own s p a b = record {
  says = one_says own s p false (rw (ne_eqb (get_or s p 0) 0 a, ne_eqb (get_or s p 0) own b));
  leaves = λ e q. holds_not e refl;
}
