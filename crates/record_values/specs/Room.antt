-- A row read with room for its set, and the rows one after another: their members, their numbers, the rows refused.
use Rattle.std.specs.Prelude.{◌≡◌, cond, List, ◌++◌, ℤ, length}
use Rattle.std.proofs.Math.Path.{refl}
use Rattle.std.proofs.Common.{ap, ◌∙◌, ⊎_elim, add-one, eq-or-lt_of_le, le-leb}
use Prim.Native.Nat.{ℕ, zero, suc, ◌+◌, ◌*◌, ◌≤◌, ◌<◌}
use native.Mathlib.Omega.{arith}
use Rattle.std.proofs.Math.ListN.{length-append}
use Rattle.fields.specs.rule.Field.{missing, number, members, text, truth, Field, holds, illegal}
use Rattle.sets.specs.rule.Sets.{filled_of, list_after, is_illegal}
use Rattle.readings.specs.Answer.{answer_of, illegal_answer, RowRead}
use Rattle.readings.specs.declared.Answer.{Answer}
use Rattle.faults.specs.declared.Fault.{Fault}
use Rattle.records.specs.rule.Value.{Outcome, nothing, number_is, set_of, text_at, truth_is, refused, bad_field, outcome_of}
use Rattle.records.specs.Value.{said_by, said_answer}
use Rattle.record_values.specs.rule.Record.{members_of, members_below, refused_below, four_of, row_reading, row_outcome, cells_below}
use Rattle.record_values.specs.Rows.{members_in, refusals_in}

-- ---- a field with room for its set
pub outcome_room : (p n : ℕ) (x : Fault) (f : Field) → length (members_of f) ≤ n → outcome_of p n x f
    ≡ outcome_of p (length (members_of f)) x f
unfolding outcome_of members_of
outcome_room p n x (holds missing) h = refl
outcome_room p n x (holds (number z)) h = refl
outcome_room p n x (holds (members ms)) h = rw (le-leb (length ms) n h, le-leb (length ms) (length ms) (omega arith))
outcome_room p n x (holds (text s)) h = refl
outcome_room p n x (holds (truth b)) h = refl
outcome_room p n x illegal h = refl

members_room : (p n : ℕ) (f : Field) → length (members_of f) ≤ n → members_in (answer_of p n f) ≡ length (members_of f)
unfolding answer_of members_of members_in
members_room p n (holds missing) h = refl
members_room p n (holds (number z)) h = refl
members_room p n (holds (members ms)) h = rw (le-leb (length ms) n h)
members_room p n (holds (text s)) h = refl
members_room p n (holds (truth b)) h = refl
members_room p n illegal h = refl

refusals_room : (p n : ℕ) (f : Field) → length (members_of f) ≤ n → refusals_in (answer_of p n f) ≡ cond (is_illegal f) 1 0
unfolding answer_of members_of refusals_in illegal_answer is_illegal
refusals_room p n (holds missing) h = refl
refusals_room p n (holds (number z)) h = refl
refusals_room p n (holds (members ms)) h = rw (le-leb (length ms) n h)
refusals_room p n (holds (text s)) h = refl
refusals_room p n (holds (truth b)) h = refl
refusals_room p n illegal h = refl

pub list_room : (f : Field) (list : List ℤ) → length (members_of f) ≤ length list → list_after f list ≡ filled_of (members_of f) list
unfolding list_after filled_of members_of
list_room (holds missing) list h = refl
list_room (holds (number z)) list h = refl
list_room (holds (members ms)) list h = rw (le-leb (length ms) (length list) h)
list_room (holds (text s)) list h = refl
list_room (holds (truth b)) list h = refl
list_room illegal list h = refl

-- what was read of a row with room for its set
module _ {p : ℕ} {f : Field} {list list' : List ℤ} {r : Answer} (q : RowRead p f list list' r)
    (h : length (members_of f) ≤ length list) where
  pub read_outcome : (x : Fault) → said_by x r ≡ outcome_of p (length (members_of f)) x f
  read_outcome x = ap (said_by x) q.answer ∙ said_answer p (length list) x f ∙ outcome_room p (length list) x f h

  pub read_members : members_in r ≡ length (members_of f)
  read_members = ap members_in q.answer ∙ members_room p (length list) f h

  pub read_refusals : refusals_in r ≡ cond (is_illegal f) 1 0
  read_refusals = ap refusals_in q.answer ∙ refusals_room p (length list) f h

  pub read_list : list' ≡ filled_of (members_of f) list
  read_list = q.leaves ∙ list_room f list h

-- ---- the members of the rows
module _ (f : ℕ → Field) where
  pub members_next : (i : ℕ) → members_below f (i + 1) ≡ members_below f i ++ members_of (f i)
  unfolding members_below
  members_next i = rw (add-one i)

  pub members_count : (i : ℕ) → length (members_below f (i + 1)) ≡ length (members_below f i) + length (members_of (f i))
  members_count i = rw (members_next i) (length-append (members_below f i) (members_of (f i)))

  pub members_grow : (i m : ℕ) → i ≤ m → length (members_below f i) ≤ length (members_below f m)
  members_grow i zero h = let e : i ≡ 0 = omega arith in rw e (omega arith)
  members_grow i (suc m) h =
      let e : suc m ≡ m + 1 = omega arith in
      ⊎_elim (λ q. rw q (omega arith)) (λ l. rw e (omega (arith, members_count m, members_grow i m (omega arith)))) (eq-or-lt_of_le h)

  pub members_step : (i v : ℕ) → i < v → length (members_below f i) + length (members_of (f i)) ≤ length (members_below f v)
  members_step i v h = omega (arith, members_count i, members_grow (i + 1) v (omega arith))

  pub none_below : length (members_below f 0) ≡ 0
  unfolding members_below
  none_below = refl

  pub refused_next : (i : ℕ) → refused_below f (i + 1) ≡ refused_below f i + cond (is_illegal (f i)) 1 0
  unfolding refused_below
  refused_next i = rw (add-one i)

-- ---- the numbers of the rows
pub length_four : (s : ℕ) (o : Outcome) → length (four_of s o) ≡ 4
unfolding four_of
length_four s nothing = refl
length_four s (number_is z) = refl
length_four s (set_of n) = refl
length_four s (text_at p n) = refl
length_four s (truth_is b) = refl
length_four s (refused k) = refl
length_four s (bad_field x) = refl

module _ (t : List ℤ) (v : ℕ) (bytes : List ℕ) where
  pub cells_next : (i : ℕ) → cells_below t v bytes (i + 1)
      ≡ cells_below t v bytes i ++ four_of (length (members_below (row_reading t v bytes) i)) (row_outcome t v bytes i)
  unfolding cells_below
  cells_next i = rw (add-one i)

  pub length_cells : (n : ℕ) → length (cells_below t v bytes n) ≡ 4 * n
  unfolding cells_below
  length_cells zero = refl
  length_cells (suc n) =
      let four = four_of (length (members_below (row_reading t v bytes) n)) (row_outcome t v bytes n) in
      omega (
        arith,
        length-append (cells_below t v bytes n) four,
        length_cells n,
        length_four (length (members_below (row_reading t v bytes) n)) (row_outcome t v bytes n),
      )
