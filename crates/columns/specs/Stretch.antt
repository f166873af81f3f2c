-- Marks of a stretch of numbers: where a number starts or ends it, a row's range as one; and marks passed that are not set.
-- Assumes nothing.
use Rattle.std.specs.Prelude.{◌≡◌, refl, Bool, true, false, cond, ◌&&◌, ◌||◌, List, ◌∷◌, ◌++◌, ℕ, zero, suc, ◌+◌, ◌-◌, ◌≤◌, ◌<◌, eqb, leb}
use Rattle.std.specs.Prelude.{ltb, ℤ, pos, negsuc, length, get_or, set}
use Rattle.std.proofs.Common.{sym, ap, ◌∙◌, ⊎_elim, arith, eq-or-lt_of_le, eqb-true, ltb-true, ltb-false, lt-ltb, le-ltb, leb-true}
use Rattle.std.proofs.Common.{leb-false, le-leb, length-set, length-append, get_or-set_same, get_or-set_other}
use Rattle.std.proofs.lemmas.Bool.{eqb-false, lt-leb}
use Rattle.std.specs.Int.Signed.{le_z}
use Rattle.below.specs.rule.Below.{any_below}
use Rattle.below.specs.Below.{any_none, any_next, any_holds, lt_or_le, holds_not}
use Rattle.cells.specs.rule.Cell.{count_of}
use Rattle.layout.specs.declared.Row.{Row}
use Rattle.fields.specs.rule.Legal.{in_range}
use Rattle.sets.specs.Marks.{flag, Marks}
use Rattle.matrix.specs.declared.Entry.{Entry}
use Rattle.matrix.specs.declared.Entry.TheVariants.{Absent, Scaled}
use Rattle.matrix.specs.Noughts.{all_are, noughts, are_at, length_noughts}
use Rattle.columns.specs.Marked.{marked_from, marked_on, marked_off, marked_nought}

-- of the first n numbers those from r on are z or more
pub record Starts (z : ℤ) (n r : ℕ) : Type 0 where
  pub low : r ≤ n
  pub at : (x : ℕ) → x < n → le_z z (pos x) ≡ leb r x

-- those before r are z or less
pub record Ends (z : ℤ) (n r : ℕ) : Type 0 where
  pub low : r ≤ n
  pub at : (x : ℕ) → x < n → le_z (pos x) z ≡ ltb x r

abbrev pub mark_at : List ℕ → ℕ → Bool
mark_at m j = eqb (get_or m j 0) 1

-- one of the n marks from i on is set
unfoldable pub mark_among : List ℕ → ℕ → ℕ → Bool
mark_among m i n = any_below n (λ k. mark_at m (i + k))

-- a place from `from` on, with no mark set between
pub record Unmarked (m : List ℕ) (from to : ℕ) : Type 0 where
  pub on : from ≤ to
  pub within : to ≤ length m
  pub none : (j : ℕ) → from ≤ j → j < to → mark_at m j ≡ false

-- if so, the sixteen categories from c on are all legal, and none of them a member
pub record Alike (legal present : List ℕ) (c : ℕ) (r : Bool) : Type 0 where
  pub inside : r ≡ true → c + 16 ≤ length legal
  pub marked : r ≡ true → (k : ℕ) → k < 16 → get_or legal (c + k) 0 ≡ 1
  pub absent : r ≡ true → (k : ℕ) → k < 16 → mark_at present (c + k) ≡ false

-- ---- a stretch of numbers marked, from lo to before hi
pub record Run (lo hi : ℕ) (m : List ℕ) : Type 0 where
  pub at : (x : ℕ) → x < length m → get_or m x 0 ≡ flag (leb lo x && ltb x hi)

and_false : (a : Bool) → a && false ≡ false
and_false true = refl
and_false false = refl

pub run_none : (lo : ℕ) (m : List ℕ) → Marks (λ x. false) m → Run lo lo m
run_none lo m a = record { at = λ x l. a.at x l ∙ ap flag (sym (go x (leb lo x) refl)) }
  where
    go : (x : ℕ) (b : Bool) → leb lo x ≡ b → leb lo x && ltb x lo ≡ false
    go x true e = rw (e, le-ltb x lo (leb-true lo x e))
    go x false e = rw e

pub run_more : (lo c : ℕ) (m : List ℕ) → lo ≤ c → c < length m → Run lo c m → Run lo (c + 1) (set m c 1)
run_more lo c m h l a = record { at = λ x k. go x (rw (length-set m c 1) at k) (eqb x c) refl }
  where
    go : (x : ℕ) → x < length m → (b : Bool) → eqb x c ≡ b → get_or (set m c 1) x 0 ≡ flag (leb lo x && ltb x (c + 1))
    go x k true e =
        let q : x ≡ c = eqb-true x c e in
        rw (q, le-leb lo c h, lt-ltb c (c + 1) (omega arith)) (get_or-set_same m c 1 0 l)
    go x k false e =
        let q : x ≡ c → ⊥ = eqb-false x c e in
        get_or-set_other m c x 1 0 q ∙ a.at x k ∙ ap (λ (b : Bool). flag (leb lo x && b)) (same x q (ltb x c) refl)
      where
        same : (x : ℕ) → (x ≡ c → ⊥) → (b : Bool) → ltb x c ≡ b → ltb x c ≡ ltb x (c + 1)
        same x q true e = let n = ltb-true x c e in rw (e, lt-ltb x (c + 1) (omega arith))
        same x q false e = let n = ltb-false x c e in rw (e, le-ltb x (c + 1) (above x q n))
          where
            above : (x : ℕ) → (x ≡ c → ⊥) → c ≤ x → c + 1 ≤ x
            above x q n = ⊎_elim (λ e. absurd (q (sym e))) (λ k. omega arith) (eq-or-lt_of_le n)

-- the stretch of a row's range
pub run_range : (r : Row) (m : List ℕ) {hi lo : ℕ} → r.range ≡ true → Ends r.to (length m) hi → Starts r.from hi lo → Run lo hi m
    → Marks (λ x. in_range r x) m
unfolding in_range
run_range r m {hi} {lo} e b a u = record { at = λ x l. u.at x l ∙ rw (e, b.at x l) (ap (λ (c : Bool). flag c) (go x (ltb x hi) refl)) }
  where
    go : (x : ℕ) (c : Bool) → ltb x hi ≡ c → leb lo x && ltb x hi ≡ (le_z r.from (pos x) && ltb x hi)
    go x true q = rw (a.at x (ltb-true x hi q))
    go x false q = rw q (and_false (leb lo x) ∙ sym (and_false (le_z r.from (pos x))))

pub no_range : (r : Row) (m : List ℕ) → r.range ≡ false → Marks (λ x. false) m → Marks (λ x. in_range r x) m
unfolding in_range
no_range r m e a = record { at = λ x l. rw e (a.at x l) }

-- ---- where a number starts and ends them
pub starts_low : (z : ℤ) (n : ℕ) → le_z z (pos 0) ≡ true → Starts z n 0
starts_low z n e = record { low = omega arith; at = λ x l. go z x e ∙ sym (le-leb 0 x (omega arith)) }
  where
    go : (z : ℤ) (x : ℕ) → le_z z (pos 0) ≡ true → le_z z (pos x) ≡ true
    go (pos k) x e = le-leb k x (omega (arith, leb-true k 0 e))
    go (negsuc k) x e = refl

pub starts_at : (z : ℤ) (n : ℕ) → le_z z (pos 0) ≡ false → count_of z < n → n ≤ 10000 → Starts z n (count_of z)
unfolding count_of
starts_at (pos k) n e h f = record { low = omega arith; at = λ x l. refl }
starts_at (negsuc k) n e h f = absurd (omega arith)

pub starts_past : (z : ℤ) (n : ℕ) → le_z z (pos 0) ≡ false → n ≤ count_of z → Starts z n n
unfolding count_of
starts_past (pos k) n e h = record { low = omega arith; at = λ x l. lt-leb k x (omega (arith, l, h)) ∙ sym (lt-leb n x l) }
starts_past (negsuc k) n e h = let q : ◌≡◌ {A = ℕ} 0 1 = cc in absurd (omega arith)

pub ends_none : (z : ℤ) (n : ℕ) → le_z (pos 0) z ≡ false → Ends z n 0
ends_none (pos k) n e = absurd (omega (arith, leb-false 0 k e))
ends_none (negsuc k) n e = record { low = omega arith; at = λ x l. sym (le-ltb x 0 (omega arith)) }

pub ends_at : (z : ℤ) (n : ℕ) → count_of z < n → n ≤ 10000 → Ends z n (count_of z + 1)
unfolding count_of
ends_at (pos k) n h f = record { low = omega arith; at = λ x l. go x (leb x k) refl }
  where
    go : (x : ℕ) (b : Bool) → leb x k ≡ b → leb x k ≡ ltb x (k + 1)
    go x true e = let q = leb-true x k e in rw (e, lt-ltb x (k + 1) (omega arith))
    go x false e = let q = leb-false x k e in rw (e, le-ltb x (k + 1) (omega arith))
ends_at (negsuc k) n h f = absurd (omega arith)

pub ends_past : (z : ℤ) (n : ℕ) → le_z (pos 0) z ≡ true → n ≤ count_of z → Ends z n n
unfolding count_of
ends_past (pos k) n e h = record { low = omega arith; at = λ x l. le-leb x k (omega arith) ∙ sym (lt-ltb x n l) }
ends_past (negsuc k) n e h = let q : ◌≡◌ {A = ℕ} 0 1 = cc in absurd (omega arith)

-- ---- marks that are not set
pub among_none : (m : List ℕ) (i : ℕ) → mark_among m i 0 ≡ false
unfolding mark_among
among_none m i = any_none (λ k. mark_at m (i + k))

pub among_more : (m : List ℕ) (i n : ℕ) (b : Bool) → b ≡ mark_among m i n → (b || mark_at m (i + n)) ≡ mark_among m i (n + 1)
unfolding mark_among
among_more m i n b e = ap (λ x. x || mark_at m (i + n)) e ∙ sym (any_next (λ k. mark_at m (i + k)) n)

pub unmarked_none : (m : List ℕ) (from : ℕ) → from ≤ length m → Unmarked m from from
unmarked_none m from h = record { on = omega arith; within = h; none = λ j a b. absurd (omega arith) }

failed : (b : Bool) → (b ≡ true → false ≡ true) → b ≡ false
failed true g = sym (g refl)
failed false g = refl

none_at : (m : List ℕ) (i n : ℕ) → mark_among m i n ≡ false → (j : ℕ) → i ≤ j → j < i + n → mark_at m j ≡ false
unfolding mark_among
none_at m i n e j a b =
    let q : i + (j - i) ≡ j = omega arith in
    failed (mark_at m j) (λ t. sym e ∙ any_holds (λ k. mark_at m (i + k)) n (j - i) (omega arith) (rw q t))

pub unmarked_more : (m : List ℕ) (from i n : ℕ) → Unmarked m from i → mark_among m i n ≡ false → i + n ≤ length m → Unmarked m from (i + n)
unmarked_more m from i n u e h = record {
  on = omega (arith, u.on);
  within = h;
  none = λ j a b. ⊎_elim (λ l. u.none j a l) (λ l. none_at m i n e j l b) (lt_or_le j i);
}

-- what is marked from a place on is what is marked from one on that no mark is before
pub unmarked_same : (there : Bool) (m present : List ℕ) (from to : ℕ) → Unmarked m from to
    → marked_from there m present from (length m - from) ≡ marked_from there m present to (length m - to)
unmarked_same there m present from to u = go (to - from) from refl u.on (λ j a b. u.none j a b)
  where
    go : (n at : ℕ) → to - at ≡ n → at ≤ to → ((j : ℕ) → at ≤ j → j < to → mark_at m j ≡ false)
        → marked_from there m present at (length m - at) ≡ marked_from there m present to (length m - to)
    go zero at e h none = let q : at ≡ to = omega arith in ap (λ (i : ℕ). marked_from there m present i (length m - i)) q
    go (suc n) at e h none =
        marked_off there m present at (omega (arith, u.within)) (eqb-false _ _ (none at (omega arith) (omega arith)))
        ∙ go n (at + 1) (omega arith) (omega arith) (λ j a b. none j (omega arith) b)

-- ---- categories that are alike
pub not_alike : (legal present : List ℕ) (c : ℕ) → Alike legal present c false
not_alike legal present c = record { inside = λ e. holds_not e refl; marked = λ e. holds_not e refl; absent = λ e. holds_not e refl }

pub are_alike : (legal present : List ℕ) (c : ℕ) (r : Bool) → c + 16 ≤ length legal → mark_among present c 16 ≡ false → r
    ≡ all_are legal c 16 1 → Alike legal present c r
are_alike legal present c r h n e = record {
  inside = λ q. h;
  marked = λ q k l. are_at legal c 16 1 (sym e ∙ q) k l;
  absent = λ q k l. none_at present c 16 n (c + k) (omega arith) (omega arith);
}

-- n that are alike are n entries of value zero, and what is behind them
alike_on : (there : Bool) (legal present : List ℕ) (n c : ℕ) → c + n ≤ length legal → ((k : ℕ) → k < n → get_or legal (c + k) 0 ≡ 1)
    → ((k : ℕ) → k < n → mark_at present (c + k) ≡ false)
    → marked_from there legal present c (length legal - c) ≡ noughts there n
    ++ marked_from there legal present (c + n) (length legal - (c + n))
unfolding noughts
alike_on there legal present zero c h m a = let e : c + 0 ≡ c = omega arith in rw e
alike_on there legal present (suc n) c h m a =
    let z : c + 0 ≡ c = omega arith in
    let w : c + 1 + n ≡ c + suc n = omega arith in
    let one = marked_on there legal present c (omega arith) (ap (λ (x : ℕ). get_or legal x 0) (sym z) ∙ m 0 (omega arith)) in
    let none = ap (λ (x : ℕ). mark_at present x) (sym z) ∙ a 0 (omega arith) in
    let rest = alike_on there legal present n (c + 1) (omega arith)
    (λ k l. ap (λ (x : ℕ). get_or legal x 0) (next c k) ∙ m (suc k) (omega arith))
    (λ k l. ap (λ (x : ℕ). mark_at present x) (next c k) ∙ a (suc k) (omega arith)) in
    one
    ∙ ap (λ (e : Entry). e ∷ marked_from there legal present (c + 1) (length legal - (c + 1)))
    (marked_nought there (get_or present c 0) none)
    ∙ ap (λ (l : List Entry). cond there (Scaled (pos 0) 1) Absent ∷ l)
    (rest ∙ ap (λ (x : ℕ). noughts there n ++ marked_from there legal present x (length legal - x)) w)
  where
    next : (c k : ℕ) → c + 1 + k ≡ c + suc k
    next c k = omega arith

pub alike_next : (there : Bool) {legal present : List ℕ} {c : ℕ} {r : Bool} → Alike legal present c r → r ≡ true
    → marked_from there legal present c (length legal - c) ≡ noughts there 16
    ++ marked_from there legal present (c + 16) (length legal - (c + 16))
alike_next there {legal} {present} {c} a e = alike_on there legal present 16 c (a.inside e) (a.marked e) (a.absent e)

pub alike_count : (there : Bool) {legal present : List ℕ} {c : ℕ} {r : Bool} → Alike legal present c r → r ≡ true
    → length (marked_from there legal present c (length legal - c)) ≡ 16
    + length (marked_from there legal present (c + 16) (length legal - (c + 16)))
alike_count there {legal} {present} {c} a e =
    let rest = marked_from there legal present (c + 16) (length legal - (c + 16)) in
    omega (arith, ap (λ (l : List Entry). length l) (alike_next there a e), length-append (noughts there 16) rest, length_noughts there 16)
