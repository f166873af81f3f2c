-- The columns of a row after all records: what stands in them, and what is known of them where all sets stood before the row's first gap.
-- Assumes nothing.
use Rattle.std.specs.Prelude.{◌≡◌, Bool, List, [], ◌∷◌, ℕ, suc, ◌+◌, ◌≤◌, ◌<◌, ltb, ℤ, pos, length, get_or}
use Rattle.std.specs.Prelude.{drop, Float}
use Rattle.std.proofs.Math.Path.{refl, ap}
use Rattle.std.proofs.Common.{sym, ◌∙◌, subst, inl, inr, add-zero, add-one, arith, lt-ltb, le-ltb, drop_of_length-le, drop-cons}
use Rattle.std.proofs.Math.Bool.{true, false, cond}
use Rattle.std.proofs.Math.Logic.{⊎_elim}
use Rattle.std.proofs.Math.ListN.{get_or-eq_default}
use Rattle.std.specs.Float.Ieee.{of_bits, div, of_int}
use Rattle.below.specs.Below.{lt_or_le}
use Rattle.quotient.specs.rule.Value.{value_of}
use Rattle.summary.specs.rule.Summary.{nought}
use Rattle.sets.specs.Marks.{flag, Marks}
use Rattle.matrix.specs.declared.Entry.{Entry}
use Rattle.matrix.specs.declared.Entry.TheVariants.{Absent}
use Rattle.matrix.specs.rule.Entry.{present_of}
use Rattle.matrix.specs.Ones.{unit}
use Rattle.matrix.specs.Told.{EachBit, ones_of, some_of, ones_nought, ones_unit}
use Rattle.layout.specs.declared.Kind.{Kind}
use Rattle.layout.specs.declared.Kind.TheVariants.{Single, Multiple, Quantity, Character, Logical}
use Rattle.layout.specs.declared.Row.{Row}
use Rattle.fields.specs.rule.Legal.{legal}
use Rattle.columns.specs.Marked.{marked_entry, defined_few}
use Rattle.fields.specs.rule.Row.{defined, reading_of}
use Rattle.columns.specs.Columns.{length_members}
use Rattle.columns.specs.Rows.{count_by, entries_by}
use Rattle.columns.specs.Near.{NearPut, stretch_at}
use Rattle.matrices.specs.Entries.{record_at}

-- the j-th entry of each record, and the values of those that are present
unfoldable pub entries_at : (List ℕ → List Entry) → ℕ → List (List ℕ) → List Entry
entries_at g j [] = []
entries_at g j (r ∷ rs) = get_or (g r) j Absent ∷ entries_at g j rs

abbrev pub values_at : (List ℕ → List Entry) → ℕ → List (List ℕ) → List Float
values_at g j rs = present_of (entries_at g j rs)

-- the mark of a column: those behind the gap have none
unfoldable pub mark_at : ℕ → List ℕ → ℕ → ℕ
mark_at gap marks c = cond (ltb c gap) (get_or marks c 0) 0

-- n zeros and ones, and whether one of them is 1
pub record MetColumn (xs : List Float) (n mark : ℕ) : Type 0 where
  pub bits : EachBit xs
  pub long : n ≡ length xs
  pub marked : mark ≡ some_of (ones_of xs)

-- so many records hold a set so far, and their members are marked: with the records that are left it is known of all
pub record Going (g : List ℕ → List Entry) (gap count n : ℕ) (marks : List ℕ) (left rs : List (List ℕ)) : Type 0 where
  pub ones : ℕ → ℕ
  pub marked : (j : ℕ) → j < count → mark_at gap marks (suc j) ≡ some_of (ones j)
  pub all : (j : ℕ) → j < count → ones j + ones_of (values_at g j left) ≡ ones_of (values_at g j rs)
  pub long : (j : ℕ) → j < count → n + length (values_at g j left) ≡ length (values_at g j rs)
  pub bits : (j : ℕ) → j < count → EachBit (values_at g j left) → EachBit (values_at g j rs)

abbrev pub RowMet : (List ℕ → List Entry) → ℕ → ℕ → ℕ → List ℕ → List (List ℕ) → Type 0
RowMet g gap count n marks rs = (j : ℕ) → j < count → MetColumn (values_at g j rs) n (mark_at gap marks (suc j))

-- ---- laws
mark_none : (gap : ℕ) (marks : List ℕ) (c : ℕ) → ((x : ℕ) → x < gap → get_or marks x 0 ≡ 0) → mark_at gap marks c ≡ 0
unfolding mark_at
mark_none gap marks c h = ⊎_elim (λ l. rw (lt-ltb c gap l) (h c l)) (λ l. rw (le-ltb c gap l)) (lt_or_le c gap)

pub going_start : (g : List ℕ → List Entry) (gap count : ℕ) (marks : List ℕ) (rs : List (List ℕ))
    → ((x : ℕ) → x < gap → get_or marks x 0 ≡ 0) → Going g gap count 0 marks rs rs
unfolding some_of
going_start g gap count marks rs h = record {
  ones = λ j. 0;
  marked = λ j l. mark_none gap marks (suc j) h;
  all = λ j l. omega arith;
  long = λ j l. omega arith;
  bits = λ j l b. b;
}

one_is : value_of (pos 1) 1 ≡ unit
unfolding value_of div of_int of_bits
one_is = refl

zero_is : value_of (pos 0) 1 ≡ nought
unfolding value_of div of_int
zero_is = refl

pub count_low : (t : List ℤ) (v : ℕ) (r : Row) (k : Kind) → count_by k t v r ≤ 9999
unfolding count_by
count_low t v r Single = omega arith
count_low t v r (Multiple s) = defined_few (legal t v r) 1 9999
count_low t v r (Quantity f) = omega arith
count_low t v r Character = omega arith
count_low t v r Logical = omega arith

pub by_length : (t : List ℤ) (v : ℕ) (r : Row) (bytes : List ℕ) (k : Kind) → length (entries_by k t v r bytes) ≡ count_by k t v r
unfolding entries_by count_by
by_length t v r bytes Single = refl
by_length t v r bytes (Multiple s) = length_members (reading_of t v r bytes) (defined (legal t v r) 1 9999)
by_length t v r bytes (Quantity f) = refl
by_length t v r bytes Character = refl
by_length t v r bytes Logical = refl

-- ---- one record more
module _ {g : List ℕ → List Entry} {gap count n : ℕ} {marks marks' : List ℕ} {r : List ℕ} {left rs : List (List ℕ)} {there : Bool}
    (few : count ≤ 9999) (a : Going g gap count n marks (r ∷ left) rs) (p : NearPut (g r) gap count there marks marks') where
  entry : (j : ℕ) → j < count → get_or (g r) j Absent ≡ marked_entry there (flag (p.has (suc j)))
  entry j l =
      let e : 1 + j ≡ suc j = omega arith in
      ap (λ (es : List Entry). get_or es j Absent) p.made ∙ stretch_at there p.has 1 count j l
      ∙ ap (λ (x : ℕ). marked_entry there (flag (p.has x))) e

  mark_on : (j : ℕ) → j < count → mark_at gap marks' (suc j) ≡ cond (p.has (suc j)) 1 (mark_at gap marks (suc j))
  unfolding mark_at
  mark_on j l = ⊎_elim
      (λ h. rw (lt-ltb (suc j) gap h) (p.met (suc j) h))
      (λ h. rw (le-ltb (suc j) gap h, p.none (suc j) h (omega arith)))
      (lt_or_le (suc j) gap)

  -- what the record adds to a column, by whether it holds a set and the category is in it
  added_values : (j : ℕ) → j < count → (t b : Bool) → there ≡ t → p.has (suc j) ≡ b → values_at g j (r ∷ left)
      ≡ cond t (cond b unit nought ∷ values_at g j left) (values_at g j left)
  unfolding entries_at present_of marked_entry
  added_values j l t b et eb =
      ap (λ (e : Entry). present_of (e ∷ entries_at g j left))
      (entry j l ∙ ap (λ (x : Bool). marked_entry x (flag (p.has (suc j)))) et ∙ ap (λ (x : Bool). marked_entry t (flag x)) eb)
      ∙ go t b
    where
      go : (t b : Bool) → present_of (marked_entry t (flag b) ∷ entries_at g j left)
          ≡ cond t (cond b unit nought ∷ values_at g j left) (values_at g j left)
      go false b = refl
      go true true = ap (λ (x : Float). x ∷ values_at g j left) one_is
      go true false = ap (λ (x : Float). x ∷ values_at g j left) zero_is

  abbrev ones' : ℕ → ℕ
  ones' j = cond (p.has (suc j)) (suc (a.ones j)) (a.ones j)

  pub going_next : Going g gap count (n + cond there 1 0) marks' left rs
  unfolding some_of EachBit
  going_next = record {
    ones = ones';
    marked = λ j l. mark_on j l ∙ marked (mark_at gap marks (suc j)) (a.ones j) (p.has (suc j)) (a.marked j l);
    all = λ j l. all j l there (p.has (suc j)) refl refl ∙ a.all j l;
    long = λ j l. long j l there (p.has (suc j)) refl refl ∙ a.long j l;
    bits = λ j l b. a.bits j l (bits j l there (p.has (suc j)) refl refl b);
  }
    where
      marked : (m o : ℕ) (b : Bool) → m ≡ some_of o → cond b 1 m ≡ some_of (cond b (suc o) o)
      marked m o true e = refl
      marked m o false e = e

      absent : (j : ℕ) {b : Bool} → there ≡ false → p.has (suc j) ≡ b → b ≡ false
      absent j e q = sym q ∙ p.absent e (suc j)

      all : (j : ℕ) → j < count → (t b : Bool) → there ≡ t → p.has (suc j) ≡ b
          → cond b (suc (a.ones j)) (a.ones j) + ones_of (values_at g j left) ≡ a.ones j + ones_of (values_at g j (r ∷ left))
      all j l false b et eb =
          rw (absent j et eb) (ap (λ (xs : List Float). a.ones j + ones_of xs) (sym (added_values j l false b et eb)))
      all j l true true et eb =
          omega (arith, ap ones_of (added_values j l true true et eb), ones_unit (values_at g j left))
      all j l true false et eb =
          omega (arith, ap ones_of (added_values j l true false et eb), ones_nought (values_at g j left))

      long : (j : ℕ) → j < count → (t b : Bool) → there ≡ t → p.has (suc j) ≡ b
          → n + cond t 1 0 + length (values_at g j left) ≡ n + length (values_at g j (r ∷ left))
      long j l false b et eb = omega (arith, ap (λ (xs : List Float). length xs) (added_values j l false b et eb))
      long j l true b et eb = omega (arith, ap (λ (xs : List Float). length xs) (added_values j l true b et eb))

      bits : (j : ℕ) → j < count → (t b : Bool) → there ≡ t → p.has (suc j) ≡ b → EachBit (values_at g j left)
          → EachBit (values_at g j (r ∷ left))
      bits j l false b et eb x = subst EachBit (sym (added_values j l false b et eb)) x
      bits j l true true et eb x = subst EachBit (sym (added_values j l true true et eb)) (inr refl, x)
      bits j l true false et eb x = subst EachBit (sym (added_values j l true false et eb)) (inl refl, x)

pub going_done : {g : List ℕ → List Entry} {gap count n : ℕ} {marks : List ℕ} {left rs : List (List ℕ)} → left ≡ []
    → Going g gap count n marks left rs → RowMet g gap count n marks rs
unfolding entries_at present_of ones_of EachBit
going_done {g} {gap} {count} {n} {marks} {left} {rs} e a j l = go (subst (λ (x : List (List ℕ)). Going g gap count n marks x rs) e a)
  where
    go : Going g gap count n marks [] rs → MetColumn (values_at g j rs) n (mark_at gap marks (suc j))
    go b = record {
      bits = b.bits j l tt;
      long = sym (add-zero n) ∙ b.long j l;
      marked = b.marked j l ∙ ap some_of (sym (add-zero (b.ones j)) ∙ b.all j l);
    }

pub going_step : (g : List ℕ → List Entry) (rs : List (List ℕ)) (n : ℕ) {gap count held held' : ℕ} {marks marks' : List ℕ} {there : Bool}
    {r : List ℕ} → n < length rs → record_at rs n ≡ r → count ≤ 9999 → Going g gap count held marks (drop n rs) rs
    → NearPut (g r) gap count there marks marks' → held' ≡ held + cond there 1 0 → Going g gap count held' marks' (drop (n + 1) rs) rs
going_step g rs n {gap} {count} {held} {held'} {marks} {marks'} {there} {r} h e few a p q =
    let d : drop n rs ≡ r ∷ drop (n + 1) rs = drop-cons rs n [] h ∙ ap (λ (x : List ℕ). x ∷ drop (suc n) rs) e
    ∙ ap (λ (i : ℕ). r ∷ drop i rs) (sym (add-one n)) in
    subst (λ (k : ℕ). Going g gap count k marks' (drop (n + 1) rs) rs) (sym q)
    (going_next few (subst (λ (l : List (List ℕ)). Going g gap count held marks l rs) d a) p)

pub going_over : (g : List ℕ → List Entry) (rs : List (List ℕ)) (n : ℕ) {gap count held : ℕ} {marks : List ℕ} → length rs ≤ n
    → Going g gap count held marks (drop n rs) rs → RowMet g gap count held marks rs
going_over g rs n h a = going_done (drop_of_length-le rs h) a

pub cleared : {m : List ℕ} → Marks (λ x. false) m → (x : ℕ) → get_or m x 0 ≡ 0
cleared {m} a x = ⊎_elim (λ l. a.at x l) (λ l. get_or-eq_default m 0 l) (lt_or_le x (length m))

pub met_as : {xs ys : List Float} {n mark mark' : ℕ} → xs ≡ ys → mark' ≡ mark → MetColumn xs n mark → MetColumn ys n mark'
met_as {n = n} {mark} {mark'} e f a =
    subst (λ (zs : List Float). MetColumn zs n mark') e (record { bits = a.bits; long = a.long; marked = f ∙ a.marked })
