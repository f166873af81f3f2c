-- Rows claimed one after the other: the stamps tell the places of the rows before, and a claim is refused just where a row before
-- shares one of them.
use Rattle.std.specs.Prelude.{◌≡◌, refl, Bool, true, false, cond, not, ◌&&◌, ◌||◌, List, [], ◌∷◌, ℕ, ◌+◌, ◌≤◌, ◌<◌, eqb, ℤ}
use Rattle.std.specs.Prelude.{get_or}
use Rattle.std.proofs.Math.Path.{sym}
use Rattle.std.proofs.Common.{◌∙◌, eq-eqb, ne_eqb}
use native.Mathlib.Omega.{arith}
use Rattle.below.specs.rule.Below.{all_below}
use Rattle.below.specs.Below.{all_none, all_next, all_fails, all_at_lem, all_of, and_true, and_left, and_right, same_bool}
use Rattle.below.specs.Below.{decided}
use Rattle.below.specs.Below.{holds_not}
use Rattle.places.specs.rule.Places.{Out, Apart}
use Rattle.sharing.specs.rule.Sharing.{is_out, are_apart, places_at, shares_none}
use Rattle.sharing.specs.Claims.{Claimed, free, all_free, free_of, free_at, none_out, out_here, out_there, out_cases}

-- ---- two lists of places
pub apart_of : (ps qs : List ℕ) → ((q : ℕ) → is_out q ps ≡ false → is_out q qs ≡ true) → are_apart ps qs ≡ true
unfolding are_apart
apart_of [] qs f = refl
apart_of (p ∷ ps) qs f = and_true _ _ (f p (out_here p ps)) (apart_of ps qs (λ q e. f q (out_there q p ps e)))

pub apart_at : (ps qs : List ℕ) → are_apart ps qs ≡ true → (q : ℕ) → is_out q ps ≡ false → is_out q qs ≡ true
unfolding are_apart
apart_at [] qs e q o = none_out q o
apart_at (p ∷ ps) qs e q o =
    out_cases q p ps o
    (λ z. rw z (and_left (is_out p qs) (are_apart ps qs) e))
    (λ z. apart_at ps qs (and_right (is_out p qs) (are_apart ps qs) e) q z)

-- the tests are the definitions of `places`, which the laws of corrections name
differs : (b : Bool) → not b ≡ true → b ≡ true → ⊥
differs true e f = holds_not e refl
differs false e f = holds_not f refl

pub out_is : (q : ℕ) (ps : List ℕ) → is_out q ps ≡ true → Out q ps
unfolding is_out
out_is q [] e = tt
out_is q (p ∷ ps) e = (
  λ z. differs (eqb q p) (and_left (not (eqb q p)) (is_out q ps) e) (eq-eqb q p z),
  out_is q ps (and_right (not (eqb q p)) (is_out q ps) e),
)

pub is_out_lem : (q : ℕ) (ps : List ℕ) → Out q ps → is_out q ps ≡ true
unfolding is_out
is_out_lem q [] o = refl
is_out_lem q (p ∷ ps) o = rw (ne_eqb q p o.0) (is_out_lem q ps o.1)

pub apart_is : (ps qs : List ℕ) → are_apart ps qs ≡ true → Apart ps qs
unfolding are_apart
apart_is [] qs e = tt
apart_is (p ∷ ps) qs e = (out_is p qs (and_left _ _ e), apart_is ps qs (and_right (is_out p qs) (are_apart ps qs) e))

pub is_apart : (ps qs : List ℕ) → Apart ps qs → are_apart ps qs ≡ true
unfolding are_apart
is_apart [] qs o = refl
is_apart (p ∷ ps) qs o = and_true _ _ (is_out_lem p qs o.0) (is_apart ps qs o.1)

-- and go both ways
pub apart_turn : (ps qs : List ℕ) → are_apart ps qs ≡ true → are_apart qs ps ≡ true
apart_turn ps qs e = apart_of qs ps (λ q o. decided (is_out q ps) (λ z. holds_not (apart_at ps qs e q z) o))

-- ---- rows P 0, P 1, .. by their places
module _ (P : ℕ → List ℕ) where
  -- the stamps of the first k rows
  pub record Stamped (k : ℕ) (s : List ℕ) : Type 0 where
    pub low : (q : ℕ) → get_or s q 0 ≤ k
    pub at : (q : ℕ) → eqb (get_or s q 0) 0 ≡ all_below k (λ i. is_out q (P i))

  abbrev pub apart_before : ℕ → Bool
  apart_before j = all_below j (λ i. are_apart (P i) (P j))

  pub stamps_none : (s : List ℕ) → ((q : ℕ) → get_or s q 0 ≡ 0) → Stamped 0 s
  stamps_none s z = record {
    low = λ q. rw (z q) (omega arith);
    at = λ q. rw (z q) (sym (all_none (λ i. is_out q (P i))));
  }

  module _ {k : ℕ} {s : List ℕ} (st : Stamped k s) where
    -- a place is free for the next row just where no row before has it
    free_next : (q : ℕ) → free (k + 1) (get_or s q 0) ≡ all_below k (λ i. is_out q (P i))
    free_next q = rw (ne_eqb (get_or s q 0) (k + 1) (λ e. let l = st.low q in omega arith)) (or_none (eqb (get_or s q 0) 0) ∙ st.at q)
      where
        or_none : (b : Bool) → (b || false) ≡ b
        or_none true = refl
        or_none false = refl

    pub claim_says : all_free (k + 1) s (P k) ≡ apart_before k
    claim_says =
        same_bool (all_free (k + 1) s (P k)) (apart_before k)
        (λ e. all_of (λ i. are_apart (P i) (P k)) k (λ i h. apart_of (P i) (P k) (λ q o. decided (is_out q (P k)) (λ z.
        holds_not (all_at_lem (λ i. is_out q (P i)) k i h (sym (free_next q) ∙ free_at (k + 1) s (P k) e q z)) o))))
        (λ e. free_of (k + 1) s (P k) (λ q o. free_next q ∙ all_of (λ i. is_out q (P i)) k (λ i h. decided (is_out q (P i)) (λ z.
        holds_not (apart_at (P i) (P k) (all_at_lem (λ i. are_apart (P i) (P k)) k i h e) q z) o))))

    pub stamps_more : {s' : List ℕ} → Claimed (k + 1) (P k) s s' true → Stamped (k + 1) s'
    stamps_more {s'} c = record {
      low = λ q. below q (is_out q (P k)) (c.leaves refl q);
      at = λ q. right q (is_out q (P k)) refl (c.leaves refl q);
    }
      where
        below : (q : ℕ) (b : Bool) → get_or s' q 0 ≡ cond b (get_or s q 0) (k + 1) → get_or s' q 0 ≤ k + 1
        below q true e = rw e (let l = st.low q in omega arith)
        below q false e = rw e (omega arith)

        last : (q : ℕ) (b : Bool) → is_out q (P k) ≡ b → all_below (k + 1) (λ i. is_out q (P i)) ≡ (all_below k (λ i. is_out q (P i)) && b)
        last q b o = all_next (λ i. is_out q (P i)) k ∙ rw o

        and_same : (b : Bool) → b ≡ (b && true)
        and_same true = refl
        and_same false = refl

        and_none : (b : Bool) → false ≡ (b && false)
        and_none true = refl
        and_none false = refl

        right : (q : ℕ) (b : Bool) → is_out q (P k) ≡ b → get_or s' q 0 ≡ cond b (get_or s q 0) (k + 1)
            → eqb (get_or s' q 0) 0 ≡ all_below (k + 1) (λ i. is_out q (P i))
        right q true o e = rw (e, last q true o) (st.at q ∙ and_same (all_below k (λ i. is_out q (P i))))
        right q false o e = rw (e, last q false o, ne_eqb (k + 1) 0 (λ z. omega arith)) (and_none (all_below k (λ i. is_out q (P i))))

-- ---- a table's rows
module _ (t : List ℤ) (v : ℕ) where
  -- no row shares a place with one before it, up to the last
  pub shares_whole : (k : ℕ) → v ≤ k → k ≤ v → all_below k (apart_before (places_at t v)) ≡ true → true ≡ shares_none t v
  unfolding shares_none
  shares_whole k a b e = let z : k ≡ v = omega arith in sym (rw z at e)

  -- a row that does
  pub shares_some : (k : ℕ) → k < v → apart_before (places_at t v) k ≡ false → false ≡ shares_none t v
  unfolding shares_none
  shares_some k h e = sym (all_fails (apart_before (places_at t v)) v k h e)

  -- THE TEST, both ways: no two rows share a value place
  pub apart_rows : shares_none t v ≡ true → (i j : ℕ) → i < j → j < v → Apart (places_at t v i) (places_at t v j)
  unfolding shares_none
  apart_rows e i j h l =
      apart_is (places_at t v i) (places_at t v j)
      (all_at_lem (λ i. are_apart (places_at t v i) (places_at t v j)) j i h (all_at_lem (apart_before (places_at t v)) v j l e))

  pub rows_apart : ((i j : ℕ) → i < j → j < v → Apart (places_at t v i) (places_at t v j)) → shares_none t v ≡ true
  unfolding shares_none
  rows_apart f =
      all_of (apart_before (places_at t v)) v (λ j l. all_of (λ i. are_apart (places_at t v i) (places_at t v j)) j (λ i h.
      is_apart (places_at t v i) (places_at t v j) (f i j h l)))
