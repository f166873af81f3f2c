-- The entries of a stretch of categories that are all legal: zeros, and the ones set among them.
-- Assumes nothing.
use Rattle.std.specs.Prelude.{◌≡◌, refl, Bool, true, false, cond, ◌||◌, List, [], ◌∷◌, ◌++◌, ℕ, zero, suc, ◌+◌, ◌-◌, ◌*◌, ◌≤◌, ◌<◌}
use Rattle.std.specs.Prelude.{eqb, ℤ, pos, negsuc, length, get_or}
use Rattle.std.proofs.Common.{sym, ap, ◌∙◌, subst, add-zero, zero-add, add-one, arith, eq-eqb, ne_eqb, lt-ltb, leb-true, le-leb}
use Rattle.std.proofs.Common.{⊎_elim, length-append}
use Rattle.std.specs.Int.Signed.{le_z}
use Rattle.below.specs.rule.Below.{any_below}
use Rattle.below.specs.Below.{any_none, any_next, lt_or_le, or_true}
use Rattle.cells.specs.rule.Cell.{cell, count_of, eq_z}
use Rattle.layout.specs.declared.Row.{Row}
use Rattle.fields.specs.rule.Legal.{in_range, on_line, legal}
use Rattle.sets.specs.Marks.{flag, Marks}
use Rattle.sets.proofs.MarkLaws.{counts}
use Rattle.matrix.specs.declared.Entry.{Entry}
use Rattle.matrix.specs.declared.Entry.TheVariants.{Absent, Scaled}
use Rattle.matrix.specs.Put.{put_entries}
use Rattle.matrix.specs.Entry.{entries_then}
use Rattle.matrix.specs.Noughts.{all_are, noughts, are_at}
use Rattle.matrix.specs.Over.{entry_over}
use Rattle.columns.specs.Marked.{marked_entry, marked_from, marked_entries, marked_on, marked_nought}
use Rattle.columns.specs.Stretch.{Ends}
use Rattle.columns.specs.Room.{PutAs}

-- a place from `from` on, with every mark set between
pub record Marked (m : List ℕ) (from to : ℕ) : Type 0 where
  pub on : from ≤ to
  pub within : to ≤ length m
  pub all : (j : ℕ) → from ≤ j → j < to → get_or m j 0 ≡ 1

-- a place among the first n numbers before which all from 1 on are in the row's range
pub record RangeTo (r : Row) (n to : ℕ) : Type 0 where
  pub on : 1 ≤ to
  pub within : to ≤ n
  pub all : (x : ℕ) → 1 ≤ x → x < to → in_range r (pos x) ≡ true

-- the entries of the categories from c on that are marked as legal
abbrev pub marked_left : Bool → List ℕ → List ℕ → ℕ → List Entry
marked_left there legal present c = marked_from there legal present c (length legal - c)

-- x is one of the list's first n numbers
abbrev pub in_list : List ℤ → ℕ → ℕ → Bool
in_list l n x = any_below n (λ j. eq_z (cell l j) (pos x))

-- the entries of n categories from c on: 1 where the test holds
unfoldable pub stretch_from : Bool → (ℕ → Bool) → ℕ → ℕ → List Entry
stretch_from there p c zero = []
stretch_from there p c (suc n) = marked_entry there (flag (p c)) ∷ stretch_from there p (suc c) n

-- where n entries stand by a test, the number z passes it, too; where n zeros stand, the list's first k numbers are set
pub record OneMore (flags values n : ℕ) (z : ℤ) (out out' : List ℕ) : Type 0 where
  pub at : (r : List ℕ) (p : ℕ → Bool) → out ≡ put_entries r flags values (stretch_from true p 1 n)
      → out' ≡ put_entries r flags values (stretch_from true (λ x. p x || eq_z z (pos x)) 1 n)

pub record OnesMore (flags values n : ℕ) (l : List ℤ) (k : ℕ) (out out' : List ℕ) : Type 0 where
  pub at : (r : List ℕ) → out ≡ put_entries r flags values (noughts true n)
      → out' ≡ put_entries r flags values (stretch_from true (in_list l k) 1 n)

-- none of the list's first n numbers is a category from c on
abbrev pub NoneFrom : List ℤ → ℕ → ℕ → Type 0
NoneFrom l n c = (x : ℕ) → c ≤ x → x < 10000 → in_list l n x ≡ false

-- ---- marks that are set
pub marked_start : (m : List ℕ) (from : ℕ) → from ≤ length m → Marked m from from
marked_start m from h = record { on = omega arith; within = h; all = λ j a b. absurd (omega arith) }

pub marked_sixteen : {m : List ℕ} {from i : ℕ} → Marked m from i → all_are m i 16 1 ≡ true → i + 16 ≤ length m → Marked m from (i + 16)
marked_sixteen {m} {from} {i} u e h = record {
  on = omega (arith, u.on);
  within = h;
  all = λ j a b. ⊎_elim (λ l. u.all j a l) (λ l. behind j l b) (lt_or_le j i);
}
  where
    behind : (j : ℕ) → i ≤ j → j < i + 16 → get_or m j 0 ≡ 1
    behind j l b =
        let q : i + (j - i) ≡ j = omega arith in
        ap (λ (x : ℕ). get_or m x 0) (sym q) ∙ are_at m i 16 1 e (j - i) (omega arith)

pub marked_one : {m : List ℕ} {from i : ℕ} → Marked m from i → get_or m i 0 ≡ 1 → i < length m → Marked m from (i + 1)
marked_one {m} {from} {i} u e h = record {
  on = omega (arith, u.on);
  within = omega arith;
  all = λ j a b. ⊎_elim (λ l. u.all j a l) (λ l. here j l b) (lt_or_le j i);
}
  where
    here : (j : ℕ) → i ≤ j → j < i + 1 → get_or m j 0 ≡ 1
    here j l b = let q : j ≡ i = omega arith in ap (λ (x : ℕ). get_or m x 0) q ∙ e

pub marked_then : {m : List ℕ} {a b c : ℕ} → Marked m a b → Marked m b c → Marked m a c
marked_then {m} {a} {b} {c} u w = record {
  on = omega (arith, u.on, w.on);
  within = w.within;
  all = λ j p q. ⊎_elim (λ l. u.all j p l) (λ l. w.all j l q) (lt_or_le j b);
}

-- ---- a row's range from 1 on
pub range_one : (r : Row) (n : ℕ) → 1 ≤ n → RangeTo r n 1
range_one r n h = record { on = omega arith; within = h; all = λ x a b. absurd (omega arith) }

from_one : (z : ℤ) (x : ℕ) → le_z z (pos 1) ≡ true → 1 ≤ x → le_z z (pos x) ≡ true
from_one (pos k) x e h = le-leb k x (omega (arith, leb-true k 1 e))
from_one (negsuc k) x e h = refl

pub range_to : (r : Row) {n to : ℕ} → r.range ≡ true → le_z r.from (pos 1) ≡ true → Ends r.to n to → 1 ≤ to → RangeTo r n to
unfolding in_range
range_to r {n} {to} e f ends h = record {
  on = h;
  within = ends.low;
  all = λ x a b. rw (e, from_one r.from x f a, ends.at x (omega (arith, ends.low, b)), lt-ltb x to b);
}

pub range_marked : (t : List ℤ) (v : ℕ) (r : Row) (m : List ℕ) {to : ℕ} → Marks (λ x. legal t v r x) m → RangeTo r (length m) to
    → Marked m 1 to
unfolding legal
range_marked t v r m {to} a g = record {
  on = g.on;
  within = g.within;
  all = λ j p q. a.at j (omega (arith, q, g.within)) ∙ ap (λ (b : Bool). flag (b || on_line t v r (pos j))) (g.all j p q);
}

-- ---- the entries of a stretch
pub length_stretch : (there : Bool) (p : ℕ → Bool) (c n : ℕ) → length (stretch_from there p c n) ≡ n
unfolding stretch_from
length_stretch there p c zero = refl
length_stretch there p c (suc n) = ap suc (length_stretch there p (suc c) n)

stretch_none : (there : Bool) (p : ℕ → Bool) (c n : ℕ) → ((x : ℕ) → p x ≡ false) → stretch_from there p c n ≡ noughts there n
unfolding stretch_from noughts
stretch_none there p c zero h = refl
stretch_none there p c (suc n) h =
    ap (λ (b : Bool). marked_entry there (flag b) ∷ stretch_from there p (suc c) n) (h c)
    ∙ ap (λ (x : Entry). x ∷ stretch_from there p (suc c) n) (marked_nought there 0 refl)
    ∙ ap (λ (l : List Entry). cond there (Scaled (pos 0) 1) Absent ∷ l) (stretch_none there p (suc c) n h)

stretch_absent : (p : ℕ → Bool) (c n : ℕ) → stretch_from false p c n ≡ noughts false n
unfolding stretch_from noughts marked_entry
stretch_absent p c zero = refl
stretch_absent p c (suc n) = ap (λ (l : List Entry). Absent ∷ l) (stretch_absent p (suc c) n)

stretch_same : (there : Bool) (p q : ℕ → Bool) (c n : ℕ) → ((x : ℕ) → c ≤ x → x < c + n → q x ≡ p x) → stretch_from there q c n
    ≡ stretch_from there p c n
unfolding stretch_from
stretch_same there p q c zero h = refl
stretch_same there p q c (suc n) h =
    ap (λ (b : Bool). marked_entry there (flag b) ∷ stretch_from there q (suc c) n) (h c (omega arith) (omega arith))
    ∙ ap (λ (l : List Entry). marked_entry there (flag (p c)) ∷ l)
    (stretch_same there p q (suc c) n (λ x a b. h x (omega arith) (omega arith)))

stretch_split : (there : Bool) (p : ℕ → Bool) (c i m : ℕ) → stretch_from there p c (i + suc m)
    ≡ stretch_from there p c i ++ (marked_entry there (flag (p (c + i))) ∷ stretch_from there p (suc (c + i)) m)
unfolding stretch_from
stretch_split there p c zero m = rw (zero-add, add-zero)
stretch_split there p c (suc i) m =
    let a : suc i + suc m ≡ suc (i + suc m) = omega arith in
    let b : c + suc i ≡ suc c + i = omega arith in
    rw (a, b) (ap (λ (l : List Entry). marked_entry there (flag (p c)) ∷ l) (stretch_split there p (suc c) i m))

pub stretch_then : (there : Bool) (p : ℕ → Bool) (c i k : ℕ) → stretch_from there p c (i + k)
    ≡ stretch_from there p c i ++ stretch_from there p (c + i) k
unfolding stretch_from
stretch_then there p c zero k = rw (zero-add, add-zero)
stretch_then there p c (suc i) k =
    let a : suc i + k ≡ suc (i + k) = omega arith in
    let b : c + suc i ≡ suc c + i = omega arith in
    rw (a, b) (ap (λ (l : List Entry). marked_entry there (flag (p c)) ∷ l) (stretch_then there p (suc c) i k))

pub stretch_noughts : (there : Bool) (p : ℕ → Bool) (c n : ℕ) → ((x : ℕ) → c ≤ x → x < c + n → p x ≡ false)
    → stretch_from there p c n ≡ noughts there n
stretch_noughts there p c n h = stretch_same there (λ x. false) p c n h ∙ stretch_none there (λ x. false) c n (λ x. refl)

-- an entry of 1 put over that of x
one_put : (r : List ℕ) (f v : ℕ) (p q : ℕ → Bool) (x n : ℕ) → 1 ≤ x → x ≤ n → q x ≡ true
    → ((y : ℕ) → y ≤ n → (y ≡ x → ⊥) → q y ≡ p y) → f + n ≤ v
    → put_entries (put_entries r f v (stretch_from true p 1 n)) (f + (x - 1)) (v + 8 * (x - 1)) (Scaled (pos 1) 1 ∷ [])
    ≡ put_entries r f v (stretch_from true q 1 n)
unfolding marked_entry
one_put r f v p q x n a b one other h =
    let i = x - 1 in
    let m = n - x in
    let d : n ≡ i + suc m = omega arith in
    let w : 1 + i ≡ x = omega arith in
    let xs = stretch_from true p 1 i in
    let zs = stretch_from true p (suc x) m in
    let old : stretch_from true p 1 n ≡ xs ++ (marked_entry true (flag (p x)) ∷ zs) =
    ap (λ (j : ℕ). stretch_from true p 1 j) d ∙ stretch_split true p 1 i m
    ∙ ap (λ (y : ℕ). xs ++ (marked_entry true (flag (p y)) ∷ stretch_from true p (suc y) m)) w in
    let new : stretch_from true q 1 n ≡ xs ++ (Scaled (pos 1) 1 ∷ zs) =
    ap (λ (j : ℕ). stretch_from true q 1 j) d ∙ stretch_split true q 1 i m
    ∙ ap (λ (y : ℕ). stretch_from true q 1 i ++ (marked_entry true (flag (q y)) ∷ stretch_from true q (suc y) m)) w
    ∙ ap (λ (l : List Entry). l ++ (marked_entry true (flag (q x)) ∷ stretch_from true q (suc x) m))
    (stretch_same true p q 1 i (λ y k l. other y (omega arith) (λ e. omega arith)))
    ∙ ap (λ (t : Bool). xs ++ (marked_entry true (flag t) ∷ stretch_from true q (suc x) m)) one
    ∙ ap (λ (l : List Entry). xs ++ (Scaled (pos 1) 1 ∷ l))
    (stretch_same true p q (suc x) m (λ y k l. other y (omega arith) (λ e. omega arith))) in
    let k : length xs ≡ i = length_stretch true p 1 i in
    ap (λ (es : List Entry). put_entries (put_entries r f v es) (f + i) (v + 8 * i) (Scaled (pos 1) 1 ∷ [])) old
    ∙ ap (λ (j : ℕ). put_entries (put_entries r f v (xs ++ (marked_entry true (flag (p x)) ∷ zs))) (f + j) (v + 8 * j)
    (Scaled (pos 1) 1 ∷ [])) (sym k)
    ∙ entry_over r f v xs (marked_entry true (flag (p x))) (Scaled (pos 1) 1) zs (omega (arith, k, length_stretch true p (suc x) m))
    ∙ ap (λ (es : List Entry). put_entries r f v es) (sym new)

or_false : (b : Bool) → (b || false) ≡ b
or_false true = refl
or_false false = refl

-- z where it is one of them, and where not
module _ (f v n : ℕ) (z : ℤ) (few : n < 10000) where
  apart : (p : ℕ → Bool) (y : ℕ) → y ≤ n → (count_of z ≡ y → ⊥) → (p y || eq_z z (pos y)) ≡ p y
  apart p y l ne = rw (counts z y (omega arith), ne_eqb (count_of z) y ne) (or_false (p y))

  pub one_here : (out : List ℕ) → 1 ≤ count_of z → count_of z ≤ n → f + n ≤ v
      → OneMore f v n z out (put_entries out (f + (count_of z - 1)) (v + 8 * (count_of z - 1)) (Scaled (pos 1) 1 ∷ []))
  one_here out a b h = record {
    at = λ r p e. ap (λ (o : List ℕ). put_entries o (f + (count_of z - 1)) (v + 8 * (count_of z - 1)) (Scaled (pos 1) 1 ∷ [])) e
        ∙ one_put r f v p (λ x. p x || eq_z z (pos x)) (count_of z) n a b
        (rw (counts z (count_of z) (omega arith), eq-eqb (count_of z) (count_of z) refl) (or_true (p (count_of z))))
        (λ y l ne. apart p y l (λ q. ne (sym q))) h;
  }

  pub one_out : (out : List ℕ) → ((y : ℕ) → 1 ≤ y → y ≤ n → count_of z ≡ y → ⊥) → OneMore f v n z out out
  one_out out ne = record {
    at = λ r p e. e ∙ ap (λ (es : List Entry). put_entries r f v es)
        (sym (stretch_same true p (λ x. p x || eq_z z (pos x)) 1 n (λ x a b. apart p x (omega arith) (ne x a (omega arith)))));
  }

pub one_is : {f v n : ℕ} {z z' : ℤ} {out out' : List ℕ} → z ≡ z' → OneMore f v n z out out' → OneMore f v n z' out out'
one_is {f} {v} {n} {z} {z'} {out} {out'} e a = subst (λ (y : ℤ). OneMore f v n y out out') e a

pub ones_none : (f v n : ℕ) (l : List ℤ) (out : List ℕ) → OnesMore f v n l 0 out out
ones_none f v n l out = record {
  at = λ r e. e ∙ ap (λ (es : List Entry). put_entries r f v es)
      (sym (stretch_none true (in_list l 0) 1 n (λ x. any_none (λ j. eq_z (cell l j) (pos x)))));
}

pub ones_more : {f v n : ℕ} {l : List ℤ} {k : ℕ} {out out' out'' : List ℕ} → OnesMore f v n l k out out'
    → OneMore f v n (cell l k) out' out'' → OnesMore f v n l (k + 1) out out''
ones_more {f} {v} {n} {l} {k} a b = record {
  at = λ r e. b.at r (in_list l k) (a.at r e) ∙ ap (λ (es : List Entry). put_entries r f v es)
      (stretch_same true (in_list l (k + 1)) (λ x. in_list l k x || eq_z (cell l k) (pos x)) 1 n
      (λ x p q. sym (any_next (λ j. eq_z (cell l j) (pos x)) k)));
}

pub ones_to : {f v n : ℕ} {l : List ℤ} {k m : ℕ} {out out' : List ℕ} → k ≡ m → OnesMore f v n l k out out' → OnesMore f v n l m out out'
ones_to {f} {v} {n} {l} {k} {m} {out} {out'} e a = subst (λ (j : ℕ). OnesMore f v n l j out out') e a

-- zeros where nothing is there, and ones set among them
pub missing_made : (there : Bool) (r o : List ℕ) (f v n : ℕ) (p : ℕ → Bool) → there ≡ false → o ≡ put_entries r f v (noughts there n)
    → o ≡ put_entries r f v (stretch_from there p 1 n)
missing_made there r o f v n p t e =
    e ∙ ap (λ (b : Bool). put_entries r f v (noughts b n)) t
    ∙ ap (λ (es : List Entry). put_entries r f v es) (sym (stretch_absent p 1 n))
    ∙ ap (λ (b : Bool). put_entries r f v (stretch_from b p 1 n)) (sym t)

pub set_made : (there : Bool) (r o o' : List ℕ) (f v n : ℕ) (l : List ℤ) (k : ℕ) → there ≡ true → o ≡ put_entries r f v (noughts there n)
    → OnesMore f v n l k o o' → o' ≡ put_entries r f v (stretch_from there (in_list l k) 1 n)
set_made there r o o' f v n l k t e a =
    a.at r (e ∙ ap (λ (b : Bool). put_entries r f v (noughts b n)) t)
    ∙ ap (λ (b : Bool). put_entries r f v (stretch_from b (in_list l k) 1 n)) (sym t)

-- ---- n that are all legal, and what is behind them
stretch_on : (there : Bool) (legal present : List ℕ) (p : ℕ → Bool) (n c : ℕ) → c + n ≤ length legal
    → ((k : ℕ) → c ≤ k → k < c + n → get_or legal k 0 ≡ 1) → ((k : ℕ) → c ≤ k → k < c + n → get_or present k 0 ≡ flag (p k))
    → marked_left there legal present c ≡ stretch_from there p c n ++ marked_left there legal present (c + n)
unfolding stretch_from
stretch_on there legal present p zero c h m a = let e : c + 0 ≡ c = omega arith in rw e
stretch_on there legal present p (suc n) c h m a =
    let w : c + 1 + n ≡ c + suc n = omega arith in
    let rest = stretch_on there legal present p n (c + 1) (omega arith) (λ k i l. m k (omega arith) (omega arith))
    (λ k i l. a k (omega arith) (omega arith)) in
    marked_on there legal present c (omega arith) (m c (omega arith) (omega arith))
    ∙ ap (λ (x : ℕ). marked_entry there x ∷ marked_left there legal present (c + 1)) (a c (omega arith) (omega arith))
    ∙ ap (λ (l : List Entry). marked_entry there (flag (p c)) ∷ l)
    (rest ∙ ap (λ (x : ℕ). stretch_from there p (c + 1) n ++ marked_left there legal present x) w
    ∙ ap (λ (x : ℕ). stretch_from there p x n ++ marked_left there legal present (c + suc n)) (add-one c))

pub gap_made : (there : Bool) (legal present : List ℕ) (l : List ℤ) (n gap : ℕ) → Marked legal 1 gap → length present ≡ length legal
    → Marks (λ z. any_below n (λ j. eq_z (cell l j) z)) present
    → marked_entries there legal present ≡ stretch_from there (in_list l n) 1 (gap - 1) ++ marked_left there legal present gap
gap_made there legal present l n gap m same marks =
    let a = m.on in
    let b = m.within in
    let e : 1 + (gap - 1) ≡ gap = omega arith in
    stretch_on there legal present (in_list l n) (gap - 1) 1 (omega arith) (λ k i j. m.all k i (omega arith))
    (λ k i j. marks.at k (omega (arith, same, j, b, e)))
    ∙ ap (λ (x : ℕ). stretch_from there (in_list l n) 1 (gap - 1) ++ marked_left there legal present x) e

pub gap_count : (there : Bool) (legal present : List ℕ) (l : List ℤ) (n gap : ℕ) → Marked legal 1 gap → length present ≡ length legal
    → Marks (λ z. any_below n (λ j. eq_z (cell l j) z)) present
    → length (marked_entries there legal present) ≡ (gap - 1) + length (marked_left there legal present gap)
gap_count there legal present l n gap m same marks =
    ap (λ (es : List Entry). length es) (gap_made there legal present l n gap m same marks)
    ∙ length-append (stretch_from there (in_list l n) 1 (gap - 1)) (marked_left there legal present gap)
    ∙ ap (λ (k : ℕ). k + length (marked_left there legal present gap)) (length_stretch there (in_list l n) 1 (gap - 1))

-- entries put, and those behind them
pub put_then : (es xs ys : List Entry) (r o o' : List ℕ) (f v k n : ℕ) → es ≡ xs ++ ys → length xs ≡ k → f + (k + length ys) ≤ v
    → o ≡ put_entries r f v xs → PutAs ys (f + k) (v + 8 * k) o o' n → PutAs es f v r o' (k + n)
put_then es xs ys r o o' f v k n e lx h eo p = record {
  count = omega (arith, p.count, lx, ap (λ (l : List Entry). length l) e, length-append xs ys);
  leaves = p.leaves
      ∙ ap (λ (l : List ℕ). put_entries l (f + k) (v + 8 * k) ys) eo
      ∙ ap (λ (j : ℕ). put_entries (put_entries r f v xs) (f + j) (v + 8 * j) ys) (sym lx)
      ∙ entries_then r f v xs ys (omega arith)
      ∙ ap (λ (l : List Entry). put_entries r f v l) (sym e);
}

-- ---- none of the categories behind a gap is in the list: they are all zeros
pub none_start : (l : List ℤ) (c : ℕ) → NoneFrom l 0 c
none_start l c x h f = any_none (λ j. eq_z (cell l j) (pos x))

pub none_more : (l : List ℤ) (k c : ℕ) → NoneFrom l k c → count_of (cell l k) < c → NoneFrom l (k + 1) c
none_more l k c a h x i f =
    any_next (λ j. eq_z (cell l j) (pos x)) k
    ∙ rw (a x i f, counts (cell l k) x (omega arith)) (ne_eqb (count_of (cell l k)) x (λ e. absurd (omega arith)))

pub none_to : (l : List ℤ) (k n c : ℕ) → k ≡ n → NoneFrom l k c → NoneFrom l n c
none_to l k n c e a = subst (λ (j : ℕ). NoneFrom l j c) e a

zeros_from : (there : Bool) (legal present : List ℕ) (n c : ℕ) → ((x : ℕ) → c ≤ x → x < c + n → get_or present x 0 ≡ 0)
    → marked_from there legal present c n ≡ noughts there (length (marked_from there legal present c n))
unfolding marked_from noughts
zeros_from there legal present zero c h = refl
zeros_from there legal present (suc n) c h =
    go (eqb (get_or legal c 0) 1) (zeros_from there legal present n (suc c) (λ x i l. h x (omega arith) (omega arith)))
  where
    rest : List Entry
    rest = marked_from there legal present (suc c) n

    go : (b : Bool) → rest ≡ noughts there (length rest) → cond b (marked_entry there (get_or present c 0) ∷ rest) rest
        ≡ noughts there (length (cond b (marked_entry there (get_or present c 0) ∷ rest) rest))
    go false e = e
    go true e =
        ap (λ (x : ℕ). marked_entry there x ∷ rest) (h c (omega arith) (omega arith))
        ∙ ap (λ (x : Entry). x ∷ rest) (marked_nought there 0 refl)
        ∙ ap (λ (l : List Entry). cond there (Scaled (pos 0) 1) Absent ∷ l) e

pub gap_zeros : (there : Bool) (legal present : List ℕ) (l : List ℤ) (n gap : ℕ) → gap ≤ length legal → length present ≡ length legal
    → length legal ≤ 10000 → Marks (λ z. any_below n (λ j. eq_z (cell l j) z)) present → NoneFrom l n gap
    → marked_left there legal present gap ≡ noughts there (length (marked_left there legal present gap))
gap_zeros there legal present l n gap h same few marks none =
    zeros_from there legal present (length legal - gap) gap
    (λ x i k. marks.at x (omega arith) ∙ ap flag (none x i (omega arith)))

pub gap_made_zeros : (there : Bool) (legal present : List ℕ) (l : List ℤ) (n gap count : ℕ) → Marked legal 1 gap
    → length present ≡ length legal → length legal ≤ 10000 → Marks (λ z. any_below n (λ j. eq_z (cell l j) z)) present → NoneFrom l n gap
    → count ≡ length (marked_entries there legal present)
    → marked_entries there legal present ≡ stretch_from there (in_list l n) 1 (gap - 1) ++ noughts there (count - (gap - 1))
gap_made_zeros there legal present l n gap count m same few marks none e =
    let left = marked_left there legal present gap in
    let k : length left ≡ count - (gap - 1) = omega (arith, e, gap_count there legal present l n gap m same marks) in
    gap_made there legal present l n gap m same marks
    ∙ ap (λ (es : List Entry). stretch_from there (in_list l n) 1 (gap - 1) ++ es)
    (gap_zeros there legal present l n gap m.within same few marks none ∙ ap (noughts there) k)
