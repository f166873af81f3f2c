-- Names that are one have one sum, and what the room of sums keeps.
use mathlib.Core.Path.{◌≡◌, refl, sym, ap, ◌∙◌}
use mathlib.Core.Logic.{⊎_elim}
use mathlib.Core.Bool.{Bool, true, false, ◌&&◌}
use mathlib.Core.List.{List, [], ◌∷◌}
use Prim.Native.Nat.{ℕ, zero, suc, ◌+◌, ◌-◌, ◌≤◌, ◌<◌}
use native.Mathlib.Nat.{eq-or-lt_of_le}
use native.Mathlib.Omega.{arith}
use lib.Dec.{eqb, ltb}
use lib.IntN.{ℤ}
use lib.ListN.{length, get_or, set, length-set}
use lib.Seq.{get_or-set_same, get_or-set_other}
use borrow.Author.Tests.{eqb-true, eqb-false, le-leb, lt-ltb}
use Rattle.below.specs.Below.{and_left, and_right}
use Rattle.layout.specs.rule.Layout.{most_rows}
use Rattle.signs.specs.declared.Sign.{Sign}
use Rattle.signs.specs.declared.Sign.TheVariants.{Byte, Break}
use Rattle.contents.specs.rule.Step.{step_of}
use Rattle.contents.specs.rule.Content.{begun, signs_from}
use Rattle.contents.specs.declared.Content.TheVariants.{Fault}
use Rattle.contents.proofs.Goes.{signs_over}
use Rattle.survey.specs.rule.Survey.{KeptText}
use Rattle.xml_reading.specs.rule.Role.{alike, signs_in, same_name}
use Rattle.filters.specs.Code.{plain_of, column_in, name_in, like_of, ServedSaid, Lying}
use Rattle.filters.specs.Sums.{folded_of, sum_with, sum_from, sum_in, bin_of, Summing, Known}
use Rattle.filters.proofs.Asked.{SomeFrom, served_by, some_next, some_over, served_begin, served_row, served_said, none_served}
use Rattle.filters.proofs.Leads.{plain_signs}
use Rattle.filters.proofs.Meets.{like_both, like_first, like_second}

never_true : false ≡ true → {A : Type 0} → A
never_true e = let z : ◌≡◌ {A = ℕ} 0 1 = cc in absurd (omega arith)

-- ---- signs that are alike are one, case aside
like_folds : (standard : Bool) (x y : Sign) → like_of standard x y ≡ true → folded_of x ≡ folded_of y
like_folds true (Byte b) (Byte c) e = eqb-true _ _ e
like_folds false (Byte b) (Byte c) e = rw (eqb-true b c e)
like_folds true (Byte b) Break e = never_true e
like_folds false (Byte b) Break e = never_true e
like_folds true Break (Byte c) e = never_true e
like_folds false Break (Byte c) e = never_true e
like_folds standard Break Break e = refl

pub alike_sums : (standard : Bool) (s t : List Sign) (a : ℕ) → alike standard s t ≡ true → sum_from a s ≡ sum_from a t
unfolding sum_from
alike_sums standard [] [] a e = refl
alike_sums standard [] (y ∷ t) a e = never_true (sym (like_second standard y t) ∙ e)
alike_sums standard (x ∷ s) [] a e = never_true (sym (like_first standard x s) ∙ e)
alike_sums standard (x ∷ s) (y ∷ t) a e =
    let f = sym (like_both standard x y s t) ∙ e in
    let g = like_folds standard x y (and_left (like_of standard x y) (alike standard s t) f) in
    rw g (alike_sums standard s t (sum_with a (folded_of y)) (and_right (like_of standard x y) (alike standard s t) f))

pub name_sums : (latin standard : Bool) (d : List ℕ) (s t : KeptText) → same_name latin standard d s t ≡ true → sum_in latin d s
    ≡ sum_in latin d t
unfolding same_name sum_in
name_sums latin standard d s t e = alike_sums standard (signs_in latin d s) (signs_in latin d t) 0 e

-- two sums, two names
pub sums_apart : (latin standard : Bool) (d : List ℕ) (s t : KeptText) → (sum_in latin d t ≡ sum_in latin d s → ⊥) → false
    ≡ same_name latin standard d s t
sums_apart latin standard d s t k = by (same_name latin standard d s t) refl where
  by : (q : Bool) → same_name latin standard d s t ≡ q → false ≡ same_name latin standard d s t
  by true e = absurd (k (sym (name_sums latin standard d s t e)))
  by false e = sym e

-- ---- sign by sign
pub sum_end : (latin : Bool) (d : List ℕ) (at a : ℕ) → length d ≤ at → a ≡ sum_from a (signs_from latin d (begun at))
unfolding sum_from step_of
sum_end latin d at a h = rw (signs_over latin d (begun at) (Fault 50 at) (rw (le-leb (length d) at h)))

pub sum_plain : (latin : Bool) (d : List ℕ) (p a : ℕ) → p < length d → plain_of (get_or d p 0) ≡ true
    → sum_from a (signs_from latin d (begun p)) ≡ sum_from (sum_with a (folded_of (Byte (get_or d p 0))))
    (signs_from latin d (begun (p + 1)))
unfolding sum_from
sum_plain latin d p a h e = rw (plain_signs latin d p h e)

pub sum_next : {l t : List Sign} {x : Sign} (a : ℕ) → l ≡ x ∷ t → sum_from a l ≡ sum_from (sum_with a (folded_of x)) t
unfolding sum_from
sum_next a e = rw e

pub sum_none : {l : List Sign} (a : ℕ) → l ≡ [] → sum_from a l ≡ a
unfolding sum_from
sum_none a e = rw e

-- ---- the room
pub room_empty : (latin : Bool) (d : List ℕ) (rows : List ℤ) (sums : List ℕ) → length sums ≡ 1024 → Summing latin d rows 0 sums
room_empty latin d rows sums h = record { room = h; names = λ i k. absurd (omega arith); served = λ i k. absurd (omega arith) }

-- a name that none of the rows with a filter has has not served
module _ (latin standard : Bool) (d : List ℕ) (rows : List ℤ) (count : ℕ) {n : ℕ} (y : Lying n rows count) (t : KeptText)
    (row : (i : ℕ) → i < count → false
    ≡ (ltb 0 (column_in rows i 19) && same_name latin standard d t (name_in rows (column_in rows i 19 - 1)))) where
  unserved : (i : ℕ) → i ≤ count → SomeFrom rows count (served_by latin standard d t) i
  unserved zero h = served_begin latin standard d rows count t
  unserved (suc i) h =
      let e : suc i ≡ i + 1 = omega arith in
      rw e (some_next rows count (served_by latin standard d t) i h (unserved i (omega arith))
      (served_row latin standard d rows count t y i h false (row i h)))

  pub rows_unserved : ServedSaid latin standard d rows count t false
  rows_unserved = served_said latin standard d rows count t false
      (some_over rows count (served_by latin standard d t) count (omega arith) (unserved count (omega arith)))

module _ (latin standard : Bool) (d : List ℕ) (rows : List ℤ) (count : ℕ) (sums : List ℕ) (y : Known latin d rows count sums) (t : KeptText)
    (empty : get_or sums (bin_of (sum_in latin d t)) 0 ≡ 0) where
  -- a name whose bin is empty has not served
  row_unserved : (i : ℕ) → i < count → false
      ≡ (ltb 0 (column_in rows i 19) && same_name latin standard d t (name_in rows (column_in rows i 19 - 1)))
  row_unserved i k = by (column_in rows i 19) refl where
    by : (f : ℕ) → column_in rows i 19 ≡ f → false
        ≡ (ltb 0 (column_in rows i 19) && same_name latin standard d t (name_in rows (column_in rows i 19 - 1)))
    by zero e = none_served _ _ e
    by (suc f) e =
        let n : column_in rows i 19 ≡ 0 → ⊥ = λ z. omega arith in
        let u = y.summing.served i k n in
        rw (lt-ltb 0 (column_in rows i 19) (omega arith))
        (sums_apart latin standard d t (name_in rows (column_in rows i 19 - 1)) (λ z. by_bin (sym (rw z at u) ∙ empty)))
      where
        by_bin : ◌≡◌ {A = ℕ} 1 0 → ⊥
        by_bin q = omega arith

  pub bin_unserved : ServedSaid latin standard d rows count t false
  bin_unserved = rows_unserved latin standard d rows count y.lying t row_unserved

-- ---- one row more
module _ (latin : Bool) (d : List ℕ) (rows : List ℤ) (i : ℕ) (sums : List ℕ) (s : Summing latin d rows i sums) (few : i < most_rows)
    (sum : ℕ) (is : sum ≡ sum_in latin d (name_in rows i)) where
  abbrev with : List ℕ
  with = set sums i sum

  with_room : length with ≡ 1024
  with_room = length-set sums i sum ∙ s.room

  pub with_names : (j : ℕ) → j < i + 1 → get_or with j 0 ≡ sum_in latin d (name_in rows j)
  with_names j h = ⊎_elim here before (eq-or-lt_of_le le) where
    le : j ≤ i
    le = omega arith

    here : j ≡ i → get_or with j 0 ≡ sum_in latin d (name_in rows j)
    here q = rw q (get_or-set_same sums i sum 0 (omega (arith, s.room)) ∙ is)

    before : j < i → get_or with j 0 ≡ sum_in latin d (name_in rows j)
    before m = get_or-set_other sums i j sum 0 (λ q. omega arith) ∙ s.names j m

  bin_far : (x : ℕ) → most_rows ≤ bin_of x
  unfolding bin_of
  bin_far x = omega arith

  with_served : (j : ℕ) → j < i → (column_in rows j 19 ≡ 0 → ⊥)
      → get_or with (bin_of (sum_in latin d (name_in rows (column_in rows j 19 - 1)))) 0 ≡ 1
  with_served j h n =
      let b = bin_far (sum_in latin d (name_in rows (column_in rows j 19 - 1))) in
      get_or-set_other sums i _ sum 0 (λ q. omega arith) ∙ s.served j h n

  pub room_plain : column_in rows i 19 ≡ 0 → Summing latin d rows (i + 1) with
  room_plain z = record {
    room = with_room;
    names = with_names;
    served = λ j h n. ⊎_elim (λ q. absurd (n (rw q z))) (λ m. with_served j m n) (eq-or-lt_of_le (le j h));
  } where
    le : (j : ℕ) → j < i + 1 → j ≤ i
    le j h = omega arith

  module _ (b : ℕ) (bin : b ≡ bin_of (sum_in latin d (name_in rows (column_in rows i 19 - 1)))) (inside : b < 1024) where
    pub room_filtered : Summing latin d rows (i + 1) (set with b 1)
    room_filtered = record {
      room = length-set with b 1 ∙ with_room;
      names = λ j h. get_or-set_other with b j 1 0
          (λ q. omega (arith, bin, bin_far (sum_in latin d (name_in rows (column_in rows i 19 - 1)))))
          ∙ with_names j h;
      served = λ j h n. ⊎_elim (here j) (λ m. kept j m n) (eq-or-lt_of_le (le j h));
    } where
      le : (j : ℕ) → j < i + 1 → j ≤ i
      le j h = omega arith

      marked : get_or (set with b 1) b 0 ≡ 1
      marked = get_or-set_same with b 1 0 (omega (arith, with_room))

      here : (j : ℕ) → j ≡ i → get_or (set with b 1) (bin_of (sum_in latin d (name_in rows (column_in rows j 19 - 1)))) 0 ≡ 1
      here j q =
          ap (λ (k : ℕ). get_or (set with b 1) k 0)
          (ap (λ (k : ℕ). bin_of (sum_in latin d (name_in rows (column_in rows k 19 - 1)))) q ∙ sym bin)
          ∙ marked

      -- a bin that is marked stays so
      stays : (k : ℕ) → get_or with k 0 ≡ 1 → get_or (set with b 1) k 0 ≡ 1
      stays k e = by (eqb k b) refl where
        by : (q : Bool) → eqb k b ≡ q → get_or (set with b 1) k 0 ≡ 1
        by true f = rw (eqb-true k b f) marked
        by false f = get_or-set_other with b k 1 0 (eqb-false k b f) ∙ e

      kept : (j : ℕ) → j < i → (column_in rows j 19 ≡ 0 → ⊥)
          → get_or (set with b 1) (bin_of (sum_in latin d (name_in rows (column_in rows j 19 - 1)))) 0 ≡ 1
      kept j m n = stays (bin_of (sum_in latin d (name_in rows (column_in rows j 19 - 1)))) (with_served j m n)
