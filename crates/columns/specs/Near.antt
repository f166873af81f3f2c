-- A set whose members all stand before the row's first gap: its entries are one stretch, and its members are marked besides those of the
-- records before.
-- Assumes nothing.
use Rattle.std.specs.Prelude.{◌≡◌, refl, Bool, true, false, cond, List, [], ◌∷◌, ◌++◌, ℕ, zero, suc, ◌+◌, ◌-◌, ◌≤◌, ◌<◌, ℤ, pos, length}
use Rattle.std.specs.Prelude.{get_or}
use Rattle.std.proofs.Common.{sym, ap, ◌∙◌, add-zero, zero-add, arith}
use Rattle.below.specs.rule.Below.{any_below}
use Rattle.below.specs.Below.{any_none}
use Rattle.cells.specs.rule.Cell.{cell, eq_z}
use Rattle.layout.specs.declared.Row.{Row}
use Rattle.fields.specs.rule.Legal.{legal}
use Rattle.fields.specs.rule.Field.{Field}
use Rattle.fields.specs.rule.Row.{defined}
use Rattle.sets.specs.Marks.{flag, Marks, Besides}
use Rattle.matrix.specs.declared.Entry.{Entry}
use Rattle.matrix.specs.declared.Entry.TheVariants.{Absent}
use Rattle.matrix.specs.Put.{put_entries}
use Rattle.columns.specs.Marked.{marked_entry, marked_entries, member_entries, defined_few}
use Rattle.columns.specs.Members.{entries_marked, count_by}
use Rattle.columns.specs.Listed.{Lists}
use Rattle.columns.specs.Ones.{in_list, stretch_from, NoneFrom, stretch_then, stretch_noughts, gap_count, gap_made_zeros}
use Rattle.columns.specs.Rows.{MarkedSet}

-- n marks of a test, from c on
unfoldable pub marks_from : (ℕ → Bool) → ℕ → ℕ → List ℕ
marks_from p c zero = []
marks_from p c (suc n) = flag (p c) ∷ marks_from p (suc c) n

pub record NearPut (es : List Entry) (gap count : ℕ) (there : Bool) (marks marks' : List ℕ) : Type 0 where
  pub has : ℕ → Bool
  pub made : es ≡ stretch_from there has 1 count
  pub met : (c : ℕ) → c < gap → get_or marks' c 0 ≡ cond (has c) 1 (get_or marks c 0)
  pub none : (c : ℕ) → gap ≤ c → c < 10000 → has c ≡ false
  pub absent : there ≡ false → (c : ℕ) → has c ≡ false

-- entries put, and the marks of a set that is near
abbrev pub RowPut : List Entry → (gap count flags values : ℕ) → (marks marks' out out' : List ℕ) → (there near : Bool) → Type 0
RowPut es gap count flags values marks marks' out out' there near =
    (out' ≡ put_entries out flags values es) × (near ≡ true → NearPut es gap count there marks marks')

-- the marks of the list's first n numbers, and no other
abbrev pub FarMarks : List ℤ → ℕ → List ℕ → Type 0
FarMarks l n m = Marks (λ z. any_below n (λ j. eq_z (cell l j) z)) m

-- ---- laws
length_marks : (p : ℕ → Bool) (c n : ℕ) → length (marks_from p c n) ≡ n
unfolding marks_from
length_marks p c zero = refl
length_marks p c (suc n) = ap suc (length_marks p (suc c) n)

marks_at : (p : ℕ → Bool) (c n k : ℕ) → k < n → get_or (marks_from p c n) k 0 ≡ flag (p (c + k))
unfolding marks_from
marks_at p c zero k h = absurd (omega arith)
marks_at p c (suc n) zero h = rw (add-zero c)
marks_at p c (suc n) (suc k) h =
    let e : suc c + k ≡ c + suc k = omega arith in
    marks_at p (suc c) n k (omega arith) ∙ ap (λ (x : ℕ). flag (p x)) e

pub stretch_at : (there : Bool) (p : ℕ → Bool) (c n j : ℕ) → j < n
    → get_or (stretch_from there p c n) j Absent ≡ marked_entry there (flag (p (c + j)))
unfolding stretch_from
stretch_at there p c zero j h = absurd (omega arith)
stretch_at there p c (suc n) zero h = rw (add-zero c)
stretch_at there p c (suc n) (suc j) h =
    let e : suc c + j ≡ c + suc j = omega arith in
    stretch_at there p (suc c) n j (omega arith) ∙ ap (λ (x : ℕ). marked_entry there (flag (p x))) e

module _ {t : List ℤ} {v : ℕ} {r : Row} {allowed : List ℕ} {gap count : ℕ} (m : MarkedSet t v r allowed gap count) {f : Field}
    {list : List ℤ} {n : ℕ} {there : Bool} (q : Lists f list n there) where
  abbrev own : List ℕ
  own = marks_from (in_list list n) 0 (length allowed)

  own_at : (c : ℕ) → c < length allowed → get_or own c 0 ≡ flag (in_list list n c)
  own_at c l = marks_at (in_list list n) 0 (length allowed) c l ∙ ap (λ (x : ℕ). flag (in_list list n x)) (zero-add c)

  own_marks : Marks (λ z. any_below n (λ j. eq_z (cell list j) z)) own
  own_marks = record { at = λ c l. own_at c (rw (length_marks (in_list list n) 0 (length allowed)) at l) }

  pub count_any : (x : List ℕ) → count ≡ length (marked_entries there allowed x)
  count_any x = m.many ∙ sym (count_by m.covered there allowed x refl m.marks)

  -- by the marks of its own members
  pub far_made : {marks : List ℕ} → length marks ≡ length allowed → FarMarks list n marks
      → marked_entries there allowed marks ≡ member_entries f (defined (legal t v r) 1 9999)
  far_made {marks} e marked =
      entries_marked m.covered there allowed marks f refl m.marks
      (λ c o l. ap (marked_entry there) (marked.at c (rw e l)) ∙ q.entry c o (omega (arith, m.covered.few)))

  pub near_made : NoneFrom list n gap → member_entries f (defined (legal t v r) 1 9999) ≡ stretch_from there (in_list list n) 1 count
  near_made none =
      let on = m.run.on in
      let few = m.covered.few in
      let ga = gap_made_zeros there allowed own list n gap count m.run (length_marks (in_list list n) 0 (length allowed)) few own_marks
      none
      (count_any own) in
      let made = far_made (length_marks (in_list list n) 0 (length allowed)) own_marks in
      let i = gap - 1 in
      let k = count - (gap - 1) in
      let whole : count ≡ i + k = omega (
        arith,
        count_any own,
        gap_count there allowed own list n gap m.run (length_marks (in_list list n) 0 (length allowed))
            own_marks,
      ) in
      let most : count ≤ 9999 = rw m.many (defined_few (legal t v r) 1 9999) in
      sym made ∙ ga
      ∙ ap (λ (l : List Entry). stretch_from there (in_list list n) 1 i ++ l)
      (sym (stretch_noughts there (in_list list n) (1 + i) k (λ x b c. none x (omega arith) (omega arith))))
      ∙ sym (stretch_then there (in_list list n) 1 i k)
      ∙ ap (stretch_from there (in_list list n) 1) (sym whole)

  -- THE ENTRIES AND MARKS of a set that is near
  pub near_put : NoneFrom list n gap → {marks marks' : List ℕ} → length marks ≡ length allowed
      → Besides (λ x. any_below n (λ j. eq_z (cell list j) x)) marks marks'
      → NearPut (member_entries f (defined (legal t v r) 1 9999)) gap count there marks marks'
  near_put none {marks} e b = record {
    has = in_list list n;
    made = near_made none;
    met = λ c l. b.at c (omega (arith, e, m.run.within));
    none = none;
    absent = λ z c.
        ap (λ (i : ℕ). any_below i (λ j. eq_z (cell list j) (pos c))) (q.none z) ∙ any_none (λ j. eq_z (cell list j) (pos c));
  }
