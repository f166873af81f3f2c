-- The first character of what a stretch says, and what a mark and a run of digits leave of it.
use mathlib.Core.Path.{◌≡◌, refl, sym, ap, ◌∙◌}
use mathlib.Core.Bool.{Bool, true, false, ◌||◌}
use mathlib.Core.List.{List, [], ◌∷◌, ◌++◌}
use Prim.Native.Nat.{ℕ, suc, ◌+◌, ◌*◌, ◌-◌, ◌≤◌}
use native.Mathlib.Omega.{arith}
use lib.Dec.{leb, ltb}
use lib.ListN.{length}
use borrow.Author.Tests.{eq-eqb, ne_eqb, le-leb, leb-true, le-ltb, lt-ltb}
use Rattle.below.specs.Below.{and_left, and_right, holds_not}
use Rattle.ascii.specs.rule.Class.{class_of}
use Rattle.scan.specs.rule.Number.{decimal_of}
use Rattle.scan.specs.rule.Number as scan
use Rattle.scan.specs.Number.{capped, push_of}
use Rattle.scan.proofs.Orders.{digit_bounds}
use Rattle.markup.specs.rule.Bytes.{is_digit}
use Rattle.spans.specs.rule.Heard.{Heard, All, Ill, after, first_heard, heard}
use Rattle.spans.specs.declared.First.TheVariants.{One, End, Not}
use Rattle.spans.proofs.Hearing.{heard_one, heard_end, heard_not}
use Rattle.spans.proofs.Numbers.{small, held}
use Rattle.reading.specs.rule.Token.{leading, after_point, begins, without}

-- ---- a digit is the same in both papers
pub bounds : (c : ℕ) → is_digit c ≡ true → (48 ≤ c) × (c ≤ 57)
unfolding is_digit
bounds c e = (leb-true 48 c (and_left (leb 48 c) (leb c 57) e), leb-true c 57 (and_right (leb 48 c) (leb c 57) e))

pub class_two : (c : ℕ) → 48 ≤ c → c ≤ 57 → class_of c ≡ 2
unfolding class_of
class_two c h k = rw (le-ltb c 32 (omega arith), ne_eqb c 32 (λ e. omega arith), le-leb 48 c h, le-leb c 57 k)

pub digit_yes : (c : ℕ) → is_digit c ≡ true → scan.is_digit c ≡ true
unfolding scan.is_digit
digit_yes c e = let b = bounds c e in rw (class_two c b.0 b.1)

pub digit_no : (c : ℕ) → is_digit c ≡ false → scan.is_digit c ≡ false
unfolding is_digit
digit_no c e = by (scan.is_digit c) refl where
  by : (q : Bool) → scan.is_digit c ≡ q → q ≡ false
  by true f = let b = digit_bounds c f in holds_not (rw (le-leb 48 c b.0, le-leb c 57 b.1)) e
  by false f = refl

-- ---- the first character
pub record First-is (s : List ℕ) (n c : ℕ) (cs : List ℕ) : Type 0 where
  pub rest : List ℕ
  pub left : heard s n ≡ All rest
  pub split : cs ≡ c ∷ rest

pub heard_first : (s : List ℕ) (at : ℕ) {c n : ℕ} {cs : List ℕ} → first_heard s at ≡ One c n → heard s at ≡ All cs → First-is s n c cs
heard_first s at {c} {n} {cs} f e = by (heard s n) refl (sym (heard_one s at c n f) ∙ e) where
  by : (h : Heard) → heard s n ≡ h → after c (heard s n) ≡ All cs → First-is s n c cs
  by (All r) g k = let z : after c (All r) ≡ All cs = ap (after c) (sym g) ∙ k in let y : c ∷ r ≡ cs = cc in
      record { rest = r; left = g; split = sym y }
  by Ill g k = let w : after c Ill ≡ All cs = ap (after c) (sym g) ∙ k in let z : ◌≡◌ {A = ℕ} 0 1 = cc in absurd (omega arith)

pub heard_none : (s : List ℕ) (at : ℕ) {cs : List ℕ} → first_heard s at ≡ End → heard s at ≡ All cs → cs ≡ []
heard_none s at {cs} f e = let k : All [] ≡ All cs = sym (heard_end s at f) ∙ e in let y : [] ≡ cs = cc in sym y

pub heard_ill : {A : Type 0} (s : List ℕ) (at : ℕ) {cs : List ℕ} → first_heard s at ≡ Not → heard s at ≡ All cs → A
heard_ill s at {cs} f e = let k : Ill ≡ All cs = sym (heard_not s at f) ∙ e in let z : ◌≡◌ {A = ℕ} 0 1 = cc in absurd (omega arith)

-- ---- a mark
module _ (m : ℕ) {c : ℕ} {cs rest : List ℕ} where
  pub mark_there : cs ≡ c ∷ rest → c ≡ m → (true ≡ begins m cs) × (without m cs ≡ rest)
  unfolding begins without
  mark_there e h = rw (e, eq-eqb c m h) (refl, refl)

  pub mark_other : cs ≡ c ∷ rest → (c ≡ m → ⊥) → (false ≡ begins m cs) × (without m cs ≡ cs)
  unfolding begins without
  mark_other e h = rw (e, ne_eqb c m h) (refl, refl)

pub mark_none : (m : ℕ) {cs : List ℕ} → cs ≡ [] → (false ≡ begins m cs) × (without m cs ≡ cs)
unfolding begins without
mark_none m e = rw e (refl, refl)

-- ---- a run of digits
-- what is left of cs behind digits that said `size` and were `count`
pub record Going (s : List ℕ) (v : ℕ) (cs : List ℕ) (size count n : ℕ) : Type 0 where
  pub rest : List ℕ
  pub left : heard s n ≡ All rest
  pub size_is : capped (decimal_of v (leading cs)) ≡ capped (decimal_of size (leading rest))
  pub count_is : length (leading cs) ≡ count + length (leading rest)
  pub behind_is : after_point cs ≡ after_point rest

pub going_start : (s : List ℕ) (v at : ℕ) (cs : List ℕ) → heard s at ≡ All cs → Going s v cs v 0 at
going_start s v at cs e = record { rest = cs; left = e; size_is = refl; count_is = omega arith; behind_is = refl }

lead_more : (c : ℕ) (l : List ℕ) → is_digit c ≡ true → (leading (c ∷ l) ≡ c ∷ leading l) × (after_point (c ∷ l) ≡ after_point l)
unfolding leading after_point
lead_more c l e = rw (digit_yes c e) (refl, refl)

lead_none : (c : ℕ) (l : List ℕ) → is_digit c ≡ false → (leading (c ∷ l) ≡ []) × (after_point (c ∷ l) ≡ c ∷ l)
unfolding leading after_point
lead_none c l e = rw (digit_no c e) (refl, refl)

pushed : (size c : ℕ) (l : List ℕ) → capped (decimal_of size (c ∷ l)) ≡ capped (decimal_of (push_of size c) l)
unfolding decimal_of push_of
pushed size c l = sym (held (size * 10 + (c - 48)) l)

pub going_next : (s : List ℕ) (v : ℕ) (cs : List ℕ) (size count : ℕ) {n c m : ℕ} → Going s v cs size count n → first_heard s n ≡ One c m
    → is_digit c ≡ true → Going s v cs (push_of size c) (count + 1) m
going_next s v cs size count {n} {c} {m} g f e =
    let h = heard_first s n f g.left in
    let k = lead_more c h.rest e in
    let x = h.split in
    let a : leading g.rest ≡ c ∷ leading h.rest = ap leading x ∙ k.0 in
    let b : length (leading g.rest) ≡ suc (length (leading h.rest)) = ap length a in
    let q = g.count_is in
    record {
      rest = h.rest;
      left = h.left;
      size_is = g.size_is ∙ ap (λ (t : List ℕ). capped (decimal_of size t)) a ∙ pushed size c (leading h.rest);
      count_is = omega arith;
      behind_is = g.behind_is ∙ ap after_point x ∙ k.1;
    }

-- where no digit stands first, the run is over
over : (s : List ℕ) (v : ℕ) (cs : List ℕ) (size count : ℕ) {n : ℕ} → size ≤ 1000000000000000 → (g : Going s v cs size count n)
    → leading g.rest ≡ [] → after_point g.rest ≡ g.rest
    → (size ≡ capped (decimal_of v (leading cs))) × (count ≡ length (leading cs)) × (heard s n ≡ All (after_point cs))
unfolding decimal_of
over s v cs size count {n} h g a b =
    let q = g.count_is in
    let l = ap length a in (
      sym (small size h) ∙ sym (g.size_is ∙ ap (λ (t : List ℕ). capped (decimal_of size t)) a),
      omega arith,
      g.left ∙ ap All (sym (g.behind_is ∙ b)),
    )

module _ (s : List ℕ) (v : ℕ) (cs : List ℕ) (size count : ℕ) {n : ℕ} (h : size ≤ 1000000000000000) (g : Going s v cs size count n) where
  pub going_other : {c m : ℕ} → first_heard s n ≡ One c m → is_digit c ≡ false → (size ≡ capped (decimal_of v (leading cs)))
      × (count ≡ length (leading cs)) × (heard s n ≡ All (after_point cs))
  going_other {c} {m} f e =
      let k = heard_first s n f g.left in
      let l = lead_none c k.rest e in
      over s v cs size count h g (ap leading k.split ∙ l.0) (ap after_point k.split ∙ l.1 ∙ sym k.split)

  none_both : (l : List ℕ) → l ≡ [] → (leading l ≡ []) × (after_point l ≡ l)
  unfolding leading after_point
  none_both l e = rw e (refl, refl)

  pub going_end : first_heard s n ≡ End → (size ≡ capped (decimal_of v (leading cs))) × (count ≡ length (leading cs))
      × (heard s n ≡ All (after_point cs))
  going_end f = let k = none_both g.rest (heard_none s n f g.left) in over s v cs size count h g k.0 k.1

-- ---- both parts of a value
pub decimal_both : (v : ℕ) (a b : List ℕ) → decimal_of v (a ++ b) ≡ decimal_of (decimal_of v a) b
unfolding decimal_of
decimal_both v [] b = refl
decimal_both v (x ∷ a) b = decimal_both (v * 10 + (x - 48)) a b

pub size_both : (a b : List ℕ) → capped (decimal_of (capped (decimal_of 0 a)) b) ≡ capped (decimal_of 0 (a ++ b))
size_both a b = held (decimal_of 0 a) b ∙ ap capped (sym (decimal_both 0 a b))

pub some_both : (a b : List ℕ) → (ltb 0 (length a) || ltb 0 (length b)) ≡ ltb 0 (length (a ++ b))
some_both [] b = refl
some_both (x ∷ a) b = rw (lt-ltb 0 (suc (length a)) (omega arith), lt-ltb 0 (suc (length (a ++ b))) (omega arith))
