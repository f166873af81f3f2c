-- "Any other byte that cannot stand there after those to its left", "the leftmost fault counts": what the fault of a number's bytes is.
-- Each byte before it may stand after those to its left, and it may not; no number goes on with it, and some number goes on without it.
use Rattle.std.specs.Prelude.{◌≡◌, refl, Bool, true, false, cond, not, ◌&&◌, ◌||◌, ℕ, zero, suc, ◌+◌, ◌-◌, ◌≤◌, ◌<◌, eqb, leb, length, take}
use Rattle.std.specs.Prelude.{drop, get_or}
use Rattle.std.proofs.Common.{sym, ap, subst, ◌∙◌, zero-add, arith, le-leb, length-append}
use Rattle.std.proofs.Math.Bool.{and_assoc, and-false, or-true}
use mathlib.Core.List.{List, [], ◌∷◌, ◌++◌, append-nil, append_assoc}
use Rattle.below.specs.Below.{holds_not, and_left, and_right}
use Rattle.ascii.specs.rule.Class.{within}
use Rattle.layout.specs.declared.Format.{Format}
use Rattle.places.specs.rule.Places.{pick}
use Rattle.places.specs.Laws.{length_pick}
use Rattle.fields.specs.rule.Number.{all_spaces, unspaced, code_of, quantity_of}
use Rattle.faults.specs.declared.Fault.{Fault}
use Rattle.faults.specs.declared.Fault.TheVariants.{Sound, Stray, NotLegal, Point}
use Rattle.faults.specs.rule.Fault.{code_format, fixed_of, point_place, may_stand, fault_at, number_from, number_form}
use Rattle.fault_laws.specs.Numbers.{stands, formed, form_after, form_stands, code_formed, quantity_formed, none_spaces}
use Rattle.faults.specs.Joined.{none_fault, some_fault}

-- each of the bytes s may stand, before n others and after `left`
unfoldable pub standing : Bool → Format → List ℕ → ℕ → List ℕ → Bool
standing q f left n [] = true
standing q f left n (b ∷ s) = may_stand q f left (length s + n) b && standing q f (left ++ (b ∷ [])) n s

-- THE FAULT of the bytes at the places ps: what stands before it, the byte, and what follows
pub record Leftmost (q : Bool) (f : Format) (r left ps : List ℕ) (x : Fault) : Type 0 where
  pub before : List ℕ
  pub byte : ℕ
  pub later : List ℕ
  pub made : pick r ps ≡ before ++ (byte ∷ later)
  pub may : standing q f left (suc (length later)) before ≡ true
  pub may_not : may_stand q f (left ++ before) (length later) byte ≡ false
  pub is : x ≡ fault_at q f (length later) (get_or ps (length before) 0) byte

from_leftmost : (q : Bool) (f : Format) (r left ps : List ℕ) → some_fault (number_from q f r left ps) ≡ true
    → Leftmost q f r left ps (number_from q f r left ps)
unfolding number_from some_fault standing
from_leftmost q f r left [] e = holds_not e refl
from_leftmost q f r left (p ∷ ps) e =
    go (may_stand q f left (length ps) (get_or r p 0)) refl e (λ u. from_leftmost q f r (left ++ (get_or r p 0 ∷ [])) ps u)
  where
    go : (c : Bool) → may_stand q f left (length ps) (get_or r p 0) ≡ c
        → some_fault (cond c (number_from q f r (left ++ (get_or r p 0 ∷ [])) ps) (fault_at q f (length ps) p (get_or r p 0))) ≡ true
        → (some_fault (number_from q f r (left ++ (get_or r p 0 ∷ [])) ps) ≡ true
        → Leftmost q f r (left ++ (get_or r p 0 ∷ [])) ps (number_from q f r (left ++ (get_or r p 0 ∷ [])) ps))
        → Leftmost q f r left (p ∷ ps) (cond c (number_from q f r (left ++ (get_or r p 0 ∷ [])) ps)
        (fault_at q f (length ps) p (get_or r p 0)))
    go false m u ih = record {
      before = [];
      byte = get_or r p 0;
      later = pick r ps;
      made = refl;
      may = refl;
      may_not = rw (append-nil left, length_pick r ps) m;
      is = rw (length_pick r ps);
    }
    go true m u ih =
        let i = ih u in
        let l : length ps ≡ length i.before + suc (length i.later) =
        sym (length_pick r ps) ∙ ap length i.made ∙ length-append i.before (i.byte ∷ i.later) in
        record {
          before = get_or r p 0 ∷ i.before;
          byte = i.byte;
          later = i.later;
          made = ap (λ (s : List ℕ). get_or r p 0 ∷ s) i.made;
          may = rw (← l, m) i.may;
          may_not = rw (append_assoc left (get_or r p 0 ∷ []) i.before) at i.may_not;
          is = i.is;
        }

-- a number's fault is the leftmost
pub leftmost : (q : Bool) (f : Format) (r ps : List ℕ) (x : Fault) → number_form q f r ps ≡ x → some_fault x ≡ true
    → (all_spaces (pick r ps) ≡ false) × Leftmost q f r [] ps x
unfolding number_form
leftmost q f r ps x e u = go (all_spaces (pick r ps)) refl e
  where
    go : (c : Bool) → all_spaces (pick r ps) ≡ c → cond c Sound (number_from q f r [] ps) ≡ x
        → (all_spaces (pick r ps) ≡ false) × Leftmost q f r [] ps x
    go true a d = holds_not (ap some_fault d ∙ u) none_fault
    go false a d = (a, subst (λ (y : Fault). Leftmost q f r [] ps y) d (from_leftmost q f r [] ps (ap some_fault d ∙ u)))

-- ---- in the paper's words: a number that begins so
stands_append : (q : Bool) (f : Format) (left x y : List ℕ)
    → stands q f left (x ++ y) ≡ (standing q f left (length y) x && stands q f (left ++ x) y)
unfolding stands standing
stands_append q f left [] y = rw (append-nil left)
stands_append q f left (b ∷ x) y =
    rw (length-append x y, stands_append q f (left ++ (b ∷ [])) x y, append_assoc left (b ∷ []) x)
    (sym (and_assoc (may_stand q f left (length x + length y) b) (standing q f (left ++ (b ∷ [])) (length y) x)
    (stands q f (left ++ (b ∷ x)) y)))

-- the point at its place, zeros elsewhere
fill : Format → ℕ → List ℕ
fill f zero = []
fill f (suc n) = cond (point_place f n) 46 48 ∷ fill f n

length_fill : (f : Format) (n : ℕ) → length (fill f n) ≡ n
unfolding fill
length_fill f zero = refl
length_fill f (suc n) = ap suc (length_fill f n)

fill_stands : (q : Bool) (f : Format) (left : List ℕ) (n : ℕ) → stands q f left (fill f n) ≡ true
unfolding fill stands may_stand
fill_stands q f left zero = refl
fill_stands q f left (suc n) =
    rw (length_fill f n) (go (point_place f n) (fill_stands q f (left ++ (cond (point_place f n) 46 48 ∷ [])) n))
  where
    go : (c : Bool) → stands q f (left ++ (cond (point_place f n) 46 48 ∷ [])) (fill f n) ≡ true
        → (cond c (eqb (cond c 46 48) 46) (within 48 57 (cond c 46 48)
        || ((leb (fixed_of f) n && all_spaces left) && (eqb (cond c 46 48) 32 || (q && eqb (cond c 46 48) 45))))
        && stands q f (left ++ (cond (point_place f n) 46 48 ∷ [])) (fill f n)) ≡ true
    go true ih = ih
    go false ih = ih

module _ (q : Bool) (f : Format) (r ps : List ℕ) (x : Fault) (a : Leftmost q f r [] ps x) where
  -- no number begins with the bytes up to and with the fault
  pub none_goes_on : (rest : List ℕ) → length rest ≡ length a.later → stands q f [] (a.before ++ (a.byte ∷ rest)) ≡ false
  unfolding stands
  none_goes_on rest l =
      rw (stands_append q f [] a.before (a.byte ∷ rest), l, a.may_not)
      (and-false (standing q f [] (suc (length a.later)) a.before))

  -- some number begins with those before it
  pub record GoesOn : Type 0 where
    pub rest : List ℕ
    pub long : length rest ≡ suc (length a.later)
    pub number : stands q f [] (a.before ++ rest) ≡ true

  pub one_goes_on : GoesOn
  one_goes_on = record {
    rest = fill f (suc (length a.later));
    long = length_fill f (suc (length a.later));
    number = rw (stands_append q f [] a.before (fill f (suc (length a.later))), length_fill f (suc (length a.later)), a.may)
        (fill_stands q f a.before (suc (length a.later)));
  }

-- the same of what is read: no bytes of this length that begin so, and are not all spaces, are a number's; and some begin with those
-- before the fault
module _ (q : Bool) (f : Format) (r ps : List ℕ) (wide : fixed_of f ≤ length ps) (x : Fault) (a : Leftmost q f r [] ps x) where
  size : length ps ≡ length a.before + suc (length a.later)
  size = sym (length_pick r ps) ∙ ap length a.made ∙ length-append a.before (a.byte ∷ a.later)

  none_after : (rest : List ℕ) → length rest ≡ length a.later → all_spaces (a.before ++ (a.byte ∷ rest)) ≡ false
      → form_after q f (unspaced (a.before ++ (a.byte ∷ rest))) ≡ false
  none_after rest l s =
      let n : length (a.before ++ (a.byte ∷ rest)) ≡ length ps = length-append a.before (a.byte ∷ rest) ∙ rw l (sym size) in
      let h : leb (fixed_of f) (length (a.before ++ (a.byte ∷ rest)))
      ≡ true = le-leb (fixed_of f) (length (a.before ++ (a.byte ∷ rest))) (omega arith) in
      sym (form_stands q f [] (a.before ++ (a.byte ∷ rest)) none_spaces h) ∙ rw (s, none_goes_on q f r ps x a rest l)

  one_after : form_after q f (unspaced (a.before ++ (one_goes_on q f r ps x a).rest)) ≡ true
  one_after =
      let g = one_goes_on q f r ps x a in
      let l = g.long in
      let n : length (a.before ++ g.rest) ≡ length ps = length-append a.before g.rest ∙ rw l (sym size) in
      let h : leb (fixed_of f) (length (a.before ++ g.rest)) ≡ true = le-leb (fixed_of f) (length (a.before ++ g.rest)) (omega arith) in
      sym (form_stands q f [] (a.before ++ g.rest) none_spaces h) ∙ rw g.number (or-true (all_spaces (a.before ++ g.rest)))

module _ (f : Format) (plain : f.point ≡ 0 → f.decimals ≡ 0) (r ps : List ℕ) (wide : fixed_of f ≤ length ps)
    (x : Fault) (a : Leftmost true f r [] ps x) where
  -- QUANTITY: it cannot stand there after those to its left
  pub cannot_stand : (rest : List ℕ) → length rest ≡ length a.later → all_spaces (a.before ++ (a.byte ∷ rest)) ≡ false
      → formed (quantity_of f (a.before ++ (a.byte ∷ rest))) ≡ false
  cannot_stand rest l s = quantity_formed f plain (a.before ++ (a.byte ∷ rest)) ∙ none_after true f r ps wide x a rest l s

  pub another_can : formed (quantity_of f (a.before ++ (one_goes_on true f r ps x a).rest)) ≡ true
  another_can = quantity_formed f plain (a.before ++ (one_goes_on true f r ps x a).rest) ∙ one_after true f r ps wide x a

module _ (r ps : List ℕ) (wide : fixed_of code_format ≤ length ps) (x : Fault) (a : Leftmost false code_format r [] ps x) where
  -- SINGLE, and a subfield
  pub code_cannot_stand : (rest : List ℕ) → length rest ≡ length a.later → all_spaces (a.before ++ (a.byte ∷ rest)) ≡ false
      → formed (code_of (a.before ++ (a.byte ∷ rest))) ≡ false
  code_cannot_stand rest l s =
      code_formed (a.before ++ (a.byte ∷ rest)) ∙ none_after false code_format r ps wide x a rest l s

  pub another_code_can : formed (code_of (a.before ++ (one_goes_on false code_format r ps x a).rest)) ≡ true
  another_code_can =
      code_formed (a.before ++ (one_goes_on false code_format r ps x a).rest) ∙ one_after false code_format r ps wide x a
