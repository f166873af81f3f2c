-- What is left of a text, decided: the test of rule/Read.antt is the relation of rule/Value.antt, both ways.
use Rattle.std.specs.Prelude.{◌≡◌, refl, Bool, true, false, cond, List, [], ◌∷◌, ◌++◌, ℕ, zero, suc, ◌<◌, eqb, ltb, length}
use Rattle.std.specs.Prelude.{take, drop}
use Rattle.std.proofs.Common.{sym, ap, ◌∙◌, append-nil, arith, eqb-true, eq-eqb, ne_eqb, ltb-true, lt-ltb, length-append}
use Rattle.std.proofs.lemmas.Bool.{eqb-false}
use Rattle.std.proofs.Math.Seq.{take-append_seam, drop-append_seam}
use Rattle.below.specs.Below.{holds_not, and_left, and_right}
use Rattle.field_values.specs.rule.Value.{zeros, Left, whole, cut, unpointed}
use Rattle.field_values.specs.rule.Read.{all_zeros, tail_good, left_of}

pub length_zeros : (n : ℕ) → length (zeros n) ≡ n
unfolding zeros
length_zeros zero = refl
length_zeros (suc n) = ap suc (length_zeros n)

all_zeros_lem : (n : ℕ) → all_zeros (zeros n) ≡ true
unfolding zeros all_zeros
all_zeros_lem zero = refl
all_zeros_lem (suc n) = all_zeros_lem n

zeros_all : (s : List ℕ) → all_zeros s ≡ true → s ≡ zeros (length s)
unfolding zeros all_zeros
zeros_all [] e = refl
zeros_all (b ∷ s) e = rw (eqb-true b 48 (and_left (eqb b 48) (all_zeros s) e))
    (ap (λ (l : List ℕ). 48 ∷ l) (zeros_all s (and_right (eqb b 48) (all_zeros s) e)))

-- ---- the test holds only of what is left
left_none : (k : ℕ) (s : List ℕ) → tail_good k s ≡ true → Left k s []
unfolding tail_good
left_none k [] e = whole refl
left_none k (b ∷ s) e = go (eqb b 46) (eqb (length s) k) (eqb k 0) (ltb (suc (length s)) k) refl refl refl refl e
  where
    go : (p q z l : Bool) → eqb b 46 ≡ p → eqb (length s) k ≡ q → eqb k 0 ≡ z → ltb (suc (length s)) k ≡ l
        → cond p (cond q (cond z false (all_zeros s)) false) (cond l (all_zeros (b ∷ s)) false) ≡ true → Left k (b ∷ s) []
    go true true true l p q z y e = holds_not e refl
    go true true false l p q z y e =
        let k≠0 = eqb-false k 0 z in
        unpointed (omega (arith, k≠0)) (rw (eqb-true b 46 p)
        (ap (λ (x : List ℕ). 46 ∷ x) (zeros_all s e ∙ ap zeros (eqb-true (length s) k q))))
    go true false z l p q w y e = holds_not e refl
    go false q z true p w u y e = cut (suc (length s)) (ltb-true (suc (length s)) k y) (zeros_all (b ∷ s) e)
    go false q z false p w u y e = holds_not e refl

left_more : (k b : ℕ) {s f : List ℕ} → Left k s f → Left k (b ∷ s) (b ∷ f)
left_more k b (whole e) = whole (ap (λ (l : List ℕ). b ∷ l) e)
left_more k b (cut j h e) = cut j h (ap (λ (l : List ℕ). b ∷ l) e)
left_more k b (unpointed h e) = unpointed h (ap (λ (l : List ℕ). b ∷ l) e)

pub left_is : (k : ℕ) (s f : List ℕ) → left_of k s f ≡ true → Left k s f
unfolding left_of
left_is k s [] e = left_none k s e
left_is k [] (b ∷ f) e = holds_not e refl
left_is k (c ∷ s) (b ∷ f) e = go (eqb c b) refl e (λ x. left_is k s f x)
  where
    go : (q : Bool) → eqb c b ≡ q → cond q (left_of k s f) false ≡ true → (left_of k s f ≡ true → Left k s f) → Left k (c ∷ s) (b ∷ f)
    go true w x g = rw (eqb-true c b w) (left_more k b (g x))
    go false w x g = holds_not x refl

-- ---- and of all that is
front : (k : ℕ) (f u : List ℕ) → tail_good k u ≡ true → left_of k (f ++ u) f ≡ true
unfolding left_of
front k [] u e = e
front k (b ∷ f) u e = rw (eq-eqb b b refl) (front k f u e)

zeros_good : (k j : ℕ) → j < k → tail_good k (zeros j) ≡ true
unfolding tail_good zeros
zeros_good k zero h = refl
zeros_good k (suc j) h = rw (length_zeros j, lt-ltb (suc j) k h) (all_zeros_lem (suc j))

point_good : (k : ℕ) → 0 < k → tail_good k (46 ∷ zeros k) ≡ true
unfolding tail_good
point_good k h = rw (length_zeros k, eq-eqb k k refl, ne_eqb k 0 (λ e. omega arith)) (all_zeros_lem k)

pub is_left : (k : ℕ) (s f : List ℕ) → Left k s f → left_of k s f ≡ true
unfolding tail_good
is_left k s f (whole e) = rw e (ap (λ (x : List ℕ). left_of k x f) (sym (append-nil f)) ∙ front k f [] refl)
is_left k s f (cut j h e) = rw e (front k f (zeros j) (zeros_good k j h))
is_left k s f (unpointed h e) = rw e (front k f (46 ∷ zeros k) (point_good k h))

-- ---- two lists that end alike
pub same_tail : (a b x y : List ℕ) → a ++ x ≡ b ++ y → length x ≡ length y → (a ≡ b) × (x ≡ y)
same_tail a b x y e h =
    let n : length a ≡ length b = omega (arith, length-append a x, length-append b y, ap length e) in (
      sym (take-append_seam a x) ∙ ap (λ (l : List ℕ). take (length a) l) e ∙ ap (λ (i : ℕ). take i (b ++ y)) n ∙ take-append_seam b y,
      sym (drop-append_seam a x) ∙ ap (λ (l : List ℕ). drop (length a) l) e ∙ ap (λ (i : ℕ). drop i (b ++ y)) n ∙ drop-append_seam b y,
    )
