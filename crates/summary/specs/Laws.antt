-- What a summary says, in the paper's words: how many values there are, which one is the smallest and which the largest.
-- The values of one column have one power of ten, so they are in the order of their scaled numbers. Assumes nothing.
use Rattle.std.specs.Prelude.{◌≡◌, Bool, ◌⊎◌, ℕ, suc, ◌+◌, ℤ, pos, negsuc, eqb, length, Float}
use Rattle.std.proofs.Math.Path.{refl, ap}
use Rattle.std.proofs.Common.{◌∙◌, inl, inr, zero-add, add-suc, arith, ltb-true, ltb-false, le-ltb, ne_eqb, eqb-true}
use Rattle.std.proofs.Math.Bool.{true, false, cond}
use mathlib.Core.List.{List, [], ◌∷◌}
use Rattle.std.proofs.Math.Nat.{add-zero, suc-add}
use Rattle.std.proofs.Math.Numerals.{add-one}
use Rattle.std.specs.Int.Signed.{lt_z}
use Rattle.std.specs.Float.Ieee.{lt}
use Rattle.quotient.specs.rule.Value.{value_of}
use Rattle.quotient.specs.Limits.{Scaled, Power}
use Rattle.quotient.proofs.Order.{value_order}
use Rattle.summary.specs.declared.Summary.{Summary}
use Rattle.summary.specs.rule.Summary.{none_summed, lower_of, higher_of, extend_of, extended_by, summary_of}

-- the values of numbers over one power of ten
unfoldable pub values_of : ℕ → List ℤ → List Float
values_of p [] = []
values_of p (n ∷ ns) = value_of n p ∷ values_of p ns

-- n is one of ns
abbrev pub Among : ℤ → List ℤ → Type 0
Among n [] = ⊥
Among n (m ∷ ns) = (n ≡ m) ⊎ Among n ns

abbrev pub Each : List ℤ → Type 0
Each [] = Unit
Each (n ∷ ns) = Scaled n × Each ns

-- x is the value of one of ns, and no value is below it; and none above it
pub record Smallest (p : ℕ) (ns : List ℤ) (x : Float) : Type 0 where
  pub number : ℤ
  pub among : Among number ns
  pub value : x ≡ value_of number p
  pub none_below : (n : ℤ) → Among n ns → lt (value_of n p) x ≡ false

pub record Largest (p : ℕ) (ns : List ℤ) (x : Float) : Type 0 where
  pub number : ℤ
  pub among : Among number ns
  pub value : x ≡ value_of number p
  pub none_above : (n : ℤ) → Among n ns → lt x (value_of n p) ≡ false

pub record Says (p : ℕ) (ns : List ℤ) (s : Summary) : Type 0 where
  pub counted : s.count ≡ length ns
  pub smallest : Smallest p ns s.least
  pub largest : Largest p ns s.most

-- ---- the order of whole numbers
not_itself : (a : ℤ) → lt_z a a ≡ false
not_itself (pos a) = le-ltb a a (omega arith)
not_itself (negsuc a) = le-ltb a a (omega arith)

-- a is no less than b, and b no less than c
not_through : (a b c : ℤ) → lt_z a b ≡ false → lt_z b c ≡ false → lt_z a c ≡ false
not_through (pos a) (pos b) (pos c) h g = le-ltb a c (omega (arith, ltb-false a b h, ltb-false b c g))
not_through (pos a) b (negsuc c) h g = refl
not_through (pos a) (negsuc b) (pos c) h g = let z : ◌≡◌ {A = ℕ} 0 1 = cc in absurd (omega arith)
not_through (negsuc a) (pos b) c h g = let z : ◌≡◌ {A = ℕ} 0 1 = cc in absurd (omega arith)
not_through (negsuc a) (negsuc b) (pos c) h g = let z : ◌≡◌ {A = ℕ} 0 1 = cc in absurd (omega arith)
not_through (negsuc a) (negsuc b) (negsuc c) h g = le-ltb c a (omega (arith, ltb-false b a h, ltb-false c b g))

not_both : (a b : ℤ) → lt_z a b ≡ true → lt_z b a ≡ false
not_both (pos a) (pos b) h = le-ltb b a (omega (arith, ltb-true a b h))
not_both (pos a) (negsuc b) h = let z : ◌≡◌ {A = ℕ} 0 1 = cc in absurd (omega arith)
not_both (negsuc a) (pos b) h = refl
not_both (negsuc a) (negsuc b) h = le-ltb a b (omega (arith, ltb-true b a h))

-- ---- the first of some numbers in an order, `before`, that has no number before itself
abbrev pub first_of : (ℤ → ℤ → Bool) → ℤ → List ℤ → ℤ
first_of before a [] = a
first_of before a (n ∷ ns) = first_of before (cond (before n a) n a) ns

module _ (before : ℤ → ℤ → Bool) (self : (a : ℤ) → before a a ≡ false) (both : (a b : ℤ) → before a b ≡ true → before b a ≡ false)
    (through : (a b c : ℤ) → before a b ≡ false → before b c ≡ false → before a c ≡ false) where
  first_among : (a : ℤ) (ns : List ℤ) → Among (first_of before a ns) (a ∷ ns)
  first_among a [] = inl refl
  first_among a (n ∷ ns) = go (before n a) (first_among (cond (before n a) n a) ns)
    where
      go : (t : Bool) → Among (first_of before (cond t n a) ns) (cond t n a ∷ ns) → Among (first_of before (cond t n a) ns) (a ∷ n ∷ ns)
      go true w = inr w
      go false (inl e) = inl e
      go false (inr w) = inr (inr w)

  kept_a : (a n : ℤ) → before a (cond (before n a) n a) ≡ false
  kept_a a n = go (before n a) refl
    where
      go : (t : Bool) → before n a ≡ t → before a (cond t n a) ≡ false
      go true e = both n a e
      go false e = self a

  kept_n : (a n : ℤ) → before n (cond (before n a) n a) ≡ false
  kept_n a n = go (before n a) refl
    where
      go : (t : Bool) → before n a ≡ t → before n (cond t n a) ≡ false
      go true e = self n
      go false e = e

  first_of_lem : (a : ℤ) (ns : List ℤ) (m : ℤ) → Among m (a ∷ ns) → before m (first_of before a ns) ≡ false
  first_of_lem a [] m (inl e) = ap (λ (x : ℤ). before x a) e ∙ self a
  first_of_lem a (n ∷ ns) m w =
      let k = cond (before n a) n a in
      elim w [
        | inl e ↦ through m k (first_of before k ns) (ap (λ (x : ℤ). before x k) e ∙ kept_a a n) (first_of_lem k ns k (inl refl))
        | inr u ↦
            elim u [
              | inl e ↦ through m k (first_of before k ns) (ap (λ (x : ℤ). before x k) e ∙ kept_n a n) (first_of_lem k ns k (inl refl))
              | inr v ↦ first_of_lem k ns m (inr v)
            ]
      ]
  first_of_lem a [] m (inr x'') = elim x'' [ ]

abbrev pub above : ℤ → ℤ → Bool
above a b = lt_z b a

-- ---- a summary of floats is that of the scaled numbers
module _ (p : ℕ) (P : Power p) where
  lower_is : (a n : ℤ) → Scaled a → Scaled n → lower_of (value_of a p) (value_of n p) ≡ value_of (cond (lt_z n a) n a) p
  unfolding lower_of
  lower_is a n h g = rw (value_order n a p g h P) (go (lt_z n a))
    where
      go : (t : Bool) → cond t (value_of n p) (value_of a p) ≡ value_of (cond t n a) p
      go true = refl
      go false = refl

  higher_is : (a n : ℤ) → Scaled a → Scaled n → higher_of (value_of a p) (value_of n p) ≡ value_of (cond (above n a) n a) p
  unfolding higher_of
  higher_is a n h g = rw (value_order a n p h g P) (go (above n a))
    where
      go : (t : Bool) → cond t (value_of n p) (value_of a p) ≡ value_of (cond t n a) p
      go true = refl
      go false = refl

  kept_scaled : (t : Bool) (a n : ℤ) → Scaled a → Scaled n → Scaled (cond t n a)
  kept_scaled true a n h g = g
  kept_scaled false a n h g = h

  extend_is : (k : ℕ) (a b n : ℤ) → Scaled a → Scaled b → Scaled n
      → extend_of (record { count = suc k; least = value_of a p; most = value_of b p }) (value_of n p)
      ≡ record { count = suc (suc k); least = value_of (cond (lt_z n a) n a) p; most = value_of (cond (above n b) n b) p }
  unfolding extend_of
  extend_is k a b n h g e = rw (ne_eqb (suc k) 0 (λ z. omega arith), lower_is a n h e, higher_is b n g e, add-one (suc k))

  extended_is : (ns : List ℤ) (k : ℕ) (a b : ℤ) → Scaled a → Scaled b → Each ns
      → extended_by (record { count = suc k; least = value_of a p; most = value_of b p }) (values_of p ns)
      ≡ record { count = suc k + length ns; least = value_of (first_of lt_z a ns) p; most = value_of (first_of above b ns) p }
  unfolding extended_by values_of
  extended_is [] k a b h g e = rw add-zero
  extended_is (n ∷ ns) k a b h g e =
      ap (λ (s : Summary). extended_by s (values_of p ns)) (extend_is k a b n h g e.0)
      ∙ extended_is ns (suc k) (cond (lt_z n a) n a) (cond (above n b) n b) (kept_scaled (lt_z n a) a n h e.0)
      (kept_scaled (above n b) b n g e.0) e.1
      ∙ rw (add-suc (suc k) (length ns), suc-add (suc k) (length ns))

  pub summary_is : (n : ℤ) (ns : List ℤ) → Each (n ∷ ns)
      → summary_of (values_of p (n ∷ ns)) ≡ record {
        count = suc (length ns);
        least = value_of (first_of lt_z n ns) p;
        most = value_of
            (first_of above n ns) p;
      }
  unfolding summary_of none_summed extended_by extend_of values_of
  summary_is n ns e = extended_is ns 0 n n e.0 e.0 e.1 ∙ rw (suc-add 0 (length ns), zero-add)

  scaled_of : (ns : List ℤ) (m : ℤ) → Each ns → Among m ns → Scaled m
  scaled_of (n ∷ ns) m e (inl q) = rw q e.0
  scaled_of (n ∷ ns) m e (inr w) = scaled_of ns m e.1 w
  scaled_of [] m e x'' = elim x'' [ ]

  -- THE LAW: the count, a smallest and a largest value, wherever a value is present
  pub summary_says : (n : ℤ) (ns : List ℤ) → Each (n ∷ ns) → Says p (n ∷ ns) (summary_of (values_of p (n ∷ ns)))
  summary_says n ns e =
      let a = first_of lt_z n ns in
      let b = first_of above n ns in
      let in-a = first_among lt_z not_itself not_both not_through n ns in
      let in_b = first_among above not_itself (λ x y. not_both y x) (λ x y z h g. not_through z y x g h) n ns in
      rw (summary_is n ns e) (record {
        counted = refl;
        smallest = record {
          number = a;
          among = in-a;
          value = refl;
          none_below = λ m w. value_order m a p (scaled_of (n ∷ ns) m e w) (scaled_of (n ∷ ns) a e in-a) P
              ∙ first_of_lem lt_z not_itself not_both not_through n ns m w;
        };
        largest = record {
          number = b;
          among = in_b;
          value = refl;
          none_above = λ m w. value_order b m p (scaled_of (n ∷ ns) b e in_b) (scaled_of (n ∷ ns) m e w) P
              ∙ first_of_lem above not_itself (λ x y. not_both y x) (λ x y z h g. not_through z y x g h) n ns m w;
        };
      })

-- both zero where none is present
pub summary_none : summary_of [] ≡ none_summed
unfolding summary_of extended_by
summary_none = refl

-- what holds of both values and of one more holds of both after it: no NaN, or that the format holds it
pub extend_keeps : (P : Float → Type 0) (s : Summary) (x : Float) → P s.least → P s.most → P x → P (extend_of s x).least
    × P (extend_of s x).most
unfolding extend_of lower_of higher_of
extend_keeps P s x a b c = go (eqb s.count 0) refl
  where
    pick : (t : Bool) (y : Float) → P y → P (cond t x y)
    pick true y p = c
    pick false y p = p

    go : (t : Bool) → eqb s.count 0 ≡ t → P (extend_of s x).least × P (extend_of s x).most
    go true e = rw e (c, c)
    go false e = rw e (pick (lt x s.least) s.least a, pick (lt s.most x) s.most b)

-- one value more is counted
pub count_on : (s : Summary) (x : Float) → (extend_of s x).count ≡ s.count + 1
unfolding extend_of
count_on s x = go (eqb s.count 0) refl
  where
    go : (t : Bool) → eqb s.count 0 ≡ t → (extend_of s x).count ≡ s.count + 1
    go true e = rw (e, eqb-true s.count 0 e)
    go false e = rw e
