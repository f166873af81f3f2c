-- FILTER-MEANS: the rule names row i as a variable's filter exactly when of the rows up to and with its own that one alone has the text as
-- its
-- name, it is a logical before it, and the variable has no use.
use mathlib.Core.Path.{◌≡◌, refl, ap}
use mathlib.Core.Logic.{◌↔◌}
use mathlib.Core.Bool.{Bool, true, false, cond, not, ◌&&◌}
use mathlib.Core.List.{List, [], ◌∷◌}
use Prim.Native.Nat.{ℕ, suc, ◌+◌}
use native.Mathlib.Omega.{arith}
use lib.Dec.{eqb}
use borrow.Author.Tests.{eq-eqb, eqb-true}
use Rattle.below.specs.Below.{holds_not}
use Rattle.survey.specs.rule.Survey.{KeptText}
use Rattle.xml_reading.specs.rule.Role.{XmlEntry, same_name, count_named, filter_from, filter_of}
use Rattle.filters.specs.rule.Kept.{At, here, there, name_of, entry_kind, Filters}

module _ (f : KeptText → Bool) where
  -- ---- none has the name
  none_named : {l : List XmlEntry} {i : ℕ} {v : XmlEntry} → At l i v → count_named f l ≡ 0 → f (name_of v) ≡ false
  unfolding count_named
  none_named (here {v = v} {l = l}) e = by (f (name_of v)) refl e where
    by : (q : Bool) → f (name_of v) ≡ q → cond q (1 + count_named f l) (count_named f l) ≡ 0 → f (name_of v) ≡ false
    by true g e = absurd (omega arith)
    by false g e = g
  none_named (there {w = w} {l = l} a) e = none_named a (by (f (name_of w)) e) where
    by : (q : Bool) → cond q (1 + count_named f l) (count_named f l) ≡ 0 → count_named f l ≡ 0
    by true e = absurd (omega arith)
    by false e = e

  all_unnamed : (l : List XmlEntry) → ((i : ℕ) (v : XmlEntry) → At l i v → f (name_of v) ≡ true → ⊥) → count_named f l ≡ 0
  unfolding count_named
  all_unnamed [] h = refl
  all_unnamed (v ∷ l) h = by (f (name_of v)) refl (all_unnamed l (λ i w a g. h (suc i) w (there a) g)) where
    by : (q : Bool) → f (name_of v) ≡ q → count_named f l ≡ 0 → cond q (1 + count_named f l) (count_named f l) ≡ 0
    by true e ih = absurd (h 0 v here e)
    by false e ih = ih

  filter_none : (l : List XmlEntry) (k : ℕ) → count_named f l ≡ 0 → filter_from f k l ≡ 0
  unfolding count_named filter_from
  filter_none [] k e = refl
  filter_none (v ∷ l) k e = by (f (name_of v)) e (filter_none l (k + 1)) where
    by : (q : Bool) → cond q (1 + count_named f l) (count_named f l) ≡ 0 → (count_named f l ≡ 0 → filter_from f (k + 1) l ≡ 0)
        → cond (q && eqb (entry_kind v) 5) (k + 1) (filter_from f (k + 1) l) ≡ 0
    by true e ih = absurd (omega arith)
    by false e ih = ih e

  -- ---- row i alone has it, and is a logical
  record Sole (l : List XmlEntry) (i : ℕ) : Type 0 where
    pub row : XmlEntry
    pub before : At l i row
    pub logical : entry_kind row ≡ 5
    pub named : f (name_of row) ≡ true
    pub only : (j : ℕ) (v : XmlEntry) → At l j v → f (name_of v) ≡ true → j ≡ i

  record Found (l : List XmlEntry) (k n : ℕ) : Type 0 where
    pub place : ℕ
    pub is : n ≡ k + place
    pub sole : Sole l place

  first_only : {v : XmlEntry} {l : List XmlEntry} {j : ℕ} {w : XmlEntry} → At (v ∷ l) j w → count_named f l ≡ 0 → f (name_of w) ≡ true → j
      ≡ 0
  first_only here c y = refl
  first_only (there a) c y = holds_not y (none_named a c)

  later_only : {v : XmlEntry} {l : List XmlEntry} {i j : ℕ} {w : XmlEntry} → f (name_of v) ≡ false → Sole l i → At (v ∷ l) j w
      → f (name_of w)
      ≡ true
      → j ≡ suc i
  later_only g s here y = holds_not y g
  later_only g s (there {v = w} {i = j} a) y = ap suc (s.only j w a y)

  shift : {v : XmlEntry} {l : List XmlEntry} {i : ℕ} → f (name_of v) ≡ false → Sole l i → Sole (v ∷ l) (suc i)
  shift g s = record {
    row = s.row;
    before = there s.before;
    logical = s.logical;
    named = s.named;
    only = λ j w a y. later_only g s a
        y;
  }

  later : {v : XmlEntry} {l : List XmlEntry} {k n : ℕ} → f (name_of v) ≡ false → Found l (k + 1) n → Found (v ∷ l) k n
  later g x = let e = x.is in record { place = suc x.place; is = omega arith; sole = shift g x.sole }

  sole_sound : (l : List XmlEntry) (k n : ℕ) → count_named f l ≡ 1 → filter_from f k l ≡ suc n → Found l k n
  unfolding count_named filter_from
  sole_sound [] k n c e = absurd (omega arith)
  sole_sound (v ∷ l) k n c e = by (f (name_of v)) (eqb (entry_kind v) 5) refl refl c e (sole_sound l (k + 1) n) where
    by : (q t : Bool) → f (name_of v) ≡ q → eqb (entry_kind v) 5 ≡ t → cond q (1 + count_named f l) (count_named f l) ≡ 1
        → cond (q && t) (k + 1) (filter_from f (k + 1) l) ≡ suc n
        → (count_named f l ≡ 1 → filter_from f (k + 1) l ≡ suc n → Found l (k + 1) n) → Found (v ∷ l) k n
    by true true g h c e ih =
        let z : count_named f l ≡ 0 = omega arith in
        record {
          place = 0;
          is = omega arith;
          sole = record { row = v; before = here; logical = eqb-true (entry_kind v) 5 h; named = g; only = λ j w a y. first_only a z y };
        }
    by true false g h c e ih = let z = filter_none l (k + 1) (omega arith) in absurd (omega arith)
    by false t g h c e ih = later g (ih c e)

  sole_complete : {l : List XmlEntry} {i : ℕ} {v : XmlEntry} → At l i v → entry_kind v ≡ 5 → f (name_of v) ≡ true
      → ((j : ℕ) (w : XmlEntry) → At l j w → f (name_of w) ≡ true → j ≡ i) → (k : ℕ)
      → (count_named f l ≡ 1) × (filter_from f k l ≡ suc (k + i))
  unfolding count_named filter_from
  sole_complete (here {v = v} {l = l}) t n o k =
      let z = all_unnamed l (λ i w a y. let e = o (suc i) w (there a) y in absurd (omega arith)) in
      (rw (n, z), rw (n, eq-eqb (entry_kind v) 5 t) (omega arith))
  sole_complete (there {w = w} {l = l} {i = i} a) t n o k =
      by (f (name_of w)) refl (sole_complete a t n (λ j x b y. let e = o (suc j) x (there b) y in omega arith) (k + 1)) where
        by : (q : Bool) → f (name_of w) ≡ q → (count_named f l ≡ 1) × (filter_from f (k + 1) l ≡ suc (k + 1 + i))
            → (cond q (1 + count_named f l) (count_named f l) ≡ 1)
            × (cond (q && eqb (entry_kind w) 5) (k + 1) (filter_from f (k + 1) l) ≡ suc (k + suc i))
        by true e ih = let z = o 0 w here e in absurd (omega arith)
        by false e ih = let z = ih.1 in (ih.0, omega arith)

module _ (latin standard : Bool) (d : List ℕ) (earlier : List XmlEntry) (name : KeptText) (usage : ℕ) (t : KeptText) (i : ℕ) where
  to : filter_of latin standard d earlier name usage t ≡ suc i → Filters latin standard d earlier name usage t i
  unfolding filter_of
  to e = by (eqb usage 0) (same_name latin standard d t name) (eqb (count_named (same_name latin standard d t) earlier) 1) refl refl refl e
    where
      by : (a b c : Bool) → eqb usage 0 ≡ a → same_name latin standard d t name ≡ b
          → eqb (count_named (same_name latin standard d t) earlier) 1
          ≡ c
          → cond (a && (not b && c)) (filter_from (same_name latin standard d t) 0 earlier) 0 ≡ suc i
          → Filters latin standard d earlier name usage t i
      by true false true p q r e =
          let x = sole_sound (same_name latin standard d t) earlier 0 i (eqb-true _ 1 r) e in
          let n = x.is in
          let o : x.place ≡ i = omega arith in
          let s = rw o at x.sole in
          record {
            row = s.row;
            before = s.before;
            logical = s.logical;
            named = s.named;
            only = s.only;
            own = q;
            unused = eqb-true usage
                0 p;
          }
      by true false false p q r e = absurd (omega arith)
      by true true c p q r e = absurd (omega arith)
      by false b c p q r e = absurd (omega arith)

  from : Filters latin standard d earlier name usage t i → filter_of latin standard d earlier name usage t ≡ suc i
  unfolding filter_of
  from x =
      let w = sole_complete (same_name latin standard d t) x.before x.logical x.named x.only 0 in
      let e = w.1 in
      rw (eq-eqb usage 0 x.unused, x.own, eq-eqb (count_named (same_name latin standard d t) earlier) 1 w.0) (omega arith)

  pub filter_means : (filter_of latin standard d earlier name usage t ≡ suc i) ↔ Filters latin standard d earlier name usage t i
  filter_means = (to, from)
