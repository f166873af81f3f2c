-- Each variable of a survey, with those before it and those behind it: what is known of it, and what these are in all.
use Rattle.std.specs.Prelude.{◌≡◌, refl, Bool, true, false, ◌||◌, List, [], ◌∷◌, ◌++◌, ℕ, ◌+◌, ◌≤◌, ◌<◌, eqb, length}
use Rattle.std.proofs.Common.{sym, ap, ◌∙◌, ⊎_elim, append_assoc, eq-or-lt_of_le, arith, ne_eqb}
use Rattle.std.proofs.lemmas.Bool.{eqb-false}
use Rattle.below.specs.rule.Below.{sum_below, max_below}
use Rattle.below.specs.Below.{sum_none, sum_more, max_none, max_more, holds_not}
use Rattle.layout.specs.rule.Layout.{most_rows, most_lines}
use Rattle.measures.specs.Survey.{Variable, lines_in, lines_all, highest_in, ident_met}
use Rattle.measures.specs.Good.{GoodVariable, Good}
use Rattle.measures.specs.Good.{none, more}
use Rattle.measures.proofs.Snoc.{added, length_with, lines_with, highest_with}

-- variable i
pub record Nth (l : List Variable) (i : ℕ) : Type 0 where
  pub before : List Variable
  pub variable : Variable
  pub behind : List Variable
  pub is : l ≡ before ++ variable ∷ behind
  pub here : length before ≡ i
  pub earlier : Good before
  pub good : GoodVariable (lines_all before) variable
  pub new : ident_met before variable.head.ident ≡ false

-- it is variable i of more variables too
abbrev pub further : {p l : List Variable} {i : ℕ} → Nth p i → (s : List Variable) → l ≡ p ++ s → Nth l i
further r s e = record {
  before = r.before;
  variable = r.variable;
  behind = r.behind ++ s;
  is = e ∙ ap (λ (m : List Variable). m ++ s) r.is ∙ append_assoc r.before (r.variable ∷ r.behind) s;
  here = r.here;
  earlier = r.earlier;
  good = r.good;
  new = r.new;
}

-- the last one
abbrev last :
    {l : List Variable} {v : Variable}
    → Good l
    → GoodVariable (lines_all l) v
    → ident_met l v.head.ident ≡ false
    → Nth (added l v) (length l)
last {l} {v} g w f = record { before = l; variable = v; behind = []; is = refl; here = refl; earlier = g; good = w; new = f }

pub nth : {l : List Variable} → Good l → (i : ℕ) → i < length l → Nth l i
nth none i h = absurd (omega arith)
nth (more {l} {v} g w f few) i h =
    let n : i ≤ length l = omega (arith, length_with l v) in
    ⊎_elim
    (λ e. rw e (last g w f))
    (λ m. further (nth g i m) (v ∷ []) refl)
    (eq-or-lt_of_le n)

-- ---- within the limits
pub few_rows : {l : List Variable} → Good l → length l ≤ most_rows
few_rows none = omega arith
few_rows (more {l} {v} g w f few) = omega (arith, length_with l v)

pub few_lines : {l : List Variable} → Good l → lines_all l ≤ most_lines
unfolding lines_all
few_lines none = omega arith
few_lines (more {l} {v} g w f few) = omega (arith, lines_with l v, w.few)

-- ---- what is counted variable by variable
pub sum_all :
    {l : List Variable}
    → Good l
    → (f : ℕ → ℕ)
    → ((i : ℕ) (r : Nth l i) → f i ≡ length (lines_in r.variable))
    → sum_below (length l) f ≡ lines_all l
unfolding lines_all
sum_all none f same = sum_none f
sum_all (more {l} {v} g w e few) f same =
    let z : f (length l) ≡ length (lines_in v) = same (length l) (last g w e) in
    rw (length_with l v, lines_with l v, sum_more f (length l), sum_all g f (λ i r. same i (further r (v ∷ []) refl)), z)

pub highest_all :
    {l : List Variable}
    → Good l
    → (f : ℕ → ℕ)
    → ((i : ℕ) (r : Nth l i) → f i ≡ r.variable.head.finish)
    → max_below (length l) f ≡ highest_in l
unfolding highest_in
highest_all none f same = max_none f
highest_all (more {l} {v} g w e few) f same =
    let z : f (length l) ≡ v.head.finish = same (length l) (last g w e) in
    rw (length_with l v, highest_with l v, max_more f (length l), highest_all g f (λ i r. same i (further r (v ∷ []) refl)), z)

pub lines_join : (p q : List Variable) → lines_all (p ++ q) ≡ lines_all p + lines_all q
unfolding lines_all
lines_join [] q = omega arith
lines_join (v ∷ p) q = omega (arith, lines_join p q)

-- ---- no ident twice
not_met :
    (p : List Variable) (v : Variable) (q : List Variable) (n : ℕ)
    → ident_met (p ++ v ∷ q) n ≡ false
    → eqb v.head.ident n ≡ false
unfolding ident_met
not_met [] v q n e = go (eqb v.head.ident n) e
  where
    go : (b : Bool) → (b || ident_met q n) ≡ false → b ≡ false
    go true e = e
    go false e = refl
not_met (w ∷ p) v q n e = not_met p v q n (go (eqb w.head.ident n) e)
  where
    go : (b : Bool) → (b || ident_met (p ++ v ∷ q) n) ≡ false → ident_met (p ++ v ∷ q) n ≡ false
    go true e = holds_not refl e
    go false e = e

-- the ident of a variable is that of none before it
pub ident_new :
    {l : List Variable} {i j : ℕ} (r : Nth l i) (s : Nth r.before j)
    → eqb r.variable.head.ident s.variable.head.ident ≡ false
ident_new r s =
    let m = r.variable.head.ident in
    let n = s.variable.head.ident in
    ne_eqb m n (λ e. eqb-false n m (not_met s.before s.variable s.behind m (rw (← s.is) r.new)) (sym e))
