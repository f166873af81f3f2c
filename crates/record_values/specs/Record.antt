-- What follows from rule/Record.antt, in the paper's words: one outcome; each refusal exactly when; row by row what read_value answers,
-- but for a set's start; its members in the list from there on; what lies beyond is kept.
use Rattle.std.specs.Prelude.{◌≡◌, Bool, ◌&&◌, List, ◌++◌, ℤ, length, take, drop}
use Rattle.std.proofs.Math.Path.{refl, sym}
use Rattle.std.proofs.Common.{◌∙◌, append_assoc, ⊎_elim, eq-or-lt_of_le, take_at}
use Rattle.std.proofs.Math.Bool.{true, false, cond}
use Prim.Native.Nat.{ℕ, zero, suc, ◌+◌, ◌-◌, ◌*◌, ◌≤◌, ◌<◌}
use native.Mathlib.Omega.{arith}
use borrow.Author.Tests.{leb-true, leb-false, le-leb, lt-leb, lt-ltb}
use Rattle.std.proofs.Math.Dec.{leb}
use Rattle.std.proofs.Math.Seq.{drop_at, drop-append_seam}
use Rattle.layout.specs.rule.Row.{row_at}
use Rattle.fields.specs.rule.Field.{Field}
use Rattle.sets.specs.rule.Sets.{filled_of}
use Rattle.records.specs.rule.First.{row_fault}
use Rattle.records.specs.rule.Value.{reading_at, read_as}
use Rattle.sound.specs.rule.Sound.{well_formed}
use Rattle.sound.specs.rule.Rows.{rows_of, length_of}
use Rattle.record_values.specs.declared.Whole.{Whole}
use Rattle.record_values.specs.declared.Whole.TheVariants as whole
use Rattle.record_values.specs.rule.Record.{row_reading, members_of, members_below, refused_below, four_of, row_outcome, cells_below}
use Rattle.record_values.specs.rule.Record.{all_members, all_cells, room_for, whole_of, written_by, RecordRead}
use Rattle.record_values.specs.Room.{outcome_room, none_below, members_count, length_four, length_cells}

-- ---- ONE OUTCOME
module _ {t : List ℤ} {bytes : List ℕ} {out list : List ℤ} where
  pub record_once : {out₁ out₂ list₁ list₂ : List ℤ} {r₁ r₂ : Whole} → RecordRead t bytes out out₁ list list₁ r₁
      → RecordRead t bytes out out₂ list list₂ r₂ → (r₁ ≡ r₂) × (out₁ ≡ out₂) × (list₁ ≡ list₂)
  record_once p q = (p.says ∙ sym q.says, p.rows ∙ sym q.rows, p.leaves ∙ sym q.leaves)

-- ---- EACH ANSWER EXACTLY WHEN: 20, 22, 25 for either room, or the counts
pub data Case (t : List ℤ) (bytes : List ℕ) (o l : ℕ) : Whole → Type 0 where
  bad_table_lem : well_formed t ≡ false → Case t bytes o l whole.BadTable
  short_record : well_formed t ≡ true → length bytes < length_of t → Case t bytes o l whole.ShortRecord
  short_out : well_formed t ≡ true → length_of t ≤ length bytes → o < 4 * rows_of t → Case t bytes o l whole.ShortRoom
  short_list : well_formed t ≡ true → length_of t ≤ length bytes → l < length (all_members t bytes) → Case t bytes o l whole.ShortRoom
  all_read : well_formed t ≡ true → length_of t ≤ length bytes → 4 * rows_of t ≤ o → length (all_members t bytes) ≤ l
      → Case t bytes o l (whole.Read (length (all_members t bytes)) (refused_below (row_reading t (rows_of t) bytes) (rows_of t)))

module _ (t : List ℤ) (bytes : List ℕ) (o l : ℕ) where
  -- the answer is one of these, each with what holds then
  pub answer_says : Case t bytes o l (whole_of t bytes o l)
  unfolding whole_of room_for
  answer_says =
      go (well_formed t) (leb (length_of t) (length bytes)) (leb (4 * rows_of t) o) (leb (length (all_members t bytes)) l) refl refl refl
      refl
    where
      go : (a b c d : Bool) → well_formed t ≡ a → leb (length_of t) (length bytes) ≡ b
          → leb (4 * rows_of t) o ≡ c → leb (length (all_members t bytes)) l ≡ d
          → Case t bytes o l (cond a (cond b (cond (c && d)
          (whole.Read (length (all_members t bytes)) (refused_below (row_reading t (rows_of t) bytes) (rows_of t))) whole.ShortRoom)
          whole.ShortRecord) whole.BadTable)
      go false b c d p q r s = bad_table_lem p
      go true false c d p q r s = short_record p (leb-false _ _ q)
      go true true false d p q r s = short_out p (leb-true _ _ q) (leb-false _ _ r)
      go true true true false p q r s = short_list p (leb-true _ _ q) (leb-false _ _ s)
      go true true true true p q r s = all_read p (leb-true _ _ q) (leb-true _ _ r) (leb-true _ _ s)

  -- and what holds decides the answer
  pub says_answer : {w : Whole} → Case t bytes o l w → whole_of t bytes o l ≡ w
  unfolding whole_of room_for
  says_answer (bad_table_lem p) = rw p
  says_answer (short_record p q) = rw (p, lt-leb _ _ q)
  says_answer (short_out p q r) = rw (p, le-leb _ _ q, lt-leb _ _ r)
  says_answer (short_list p q r) = rw (p, le-leb _ _ q, lt-leb _ _ r) (no_room (leb (4 * rows_of t) o))
    where
      no_room : (b : Bool) → cond (b && false)
          (whole.Read (length (all_members t bytes)) (refused_below (row_reading t (rows_of t) bytes) (rows_of t))) whole.ShortRoom
          ≡ whole.ShortRoom
      no_room true = refl
      no_room false = refl
  says_answer (all_read p q r s) = rw (p, le-leb _ _ q, le-leb _ _ r, le-leb _ _ s)

-- a record that was read has a good table, and is long enough
read_of : {t : List ℤ} {bytes : List ℕ} {o l m k : ℕ} {w : Whole} → Case t bytes o l w
    → w ≡ whole.Read m k → (well_formed t ≡ true) × (length_of t ≤ length bytes)
read_of (bad_table_lem p) e = let z : ◌≡◌ {A = ℕ} 0 1 = cc in absurd (omega arith)
read_of (short_record p q) e = let z : ◌≡◌ {A = ℕ} 0 1 = cc in absurd (omega arith)
read_of (short_out p q r) e = let z : ◌≡◌ {A = ℕ} 0 1 = cc in absurd (omega arith)
read_of (short_list p q r) e = let z : ◌≡◌ {A = ℕ} 0 1 = cc in absurd (omega arith)
read_of (all_read p q r s) e = (p, q)

-- ---- a refusal writes nothing
pub nothing_written : (w : Whole) (xs lent : List ℤ) → ((m k : ℕ) → w ≡ whole.Read m k → ⊥) → written_by w xs lent ≡ lent
unfolding written_by
nothing_written (whole.Read m k) xs lent h = absurd (h m k refl)
nothing_written whole.BadTable xs lent h = refl
nothing_written whole.ShortRecord xs lent h = refl
nothing_written whole.ShortRoom xs lent h = refl

-- ---- the rows, one behind the other
module _ (t : List ℤ) (v : ℕ) (bytes : List ℕ) where
  four_at : (n i : ℕ) (rest : List ℤ) → i < n
      → take 4 (drop (4 * i) (cells_below t v bytes n ++ rest))
      ≡ four_of (length (members_below (row_reading t v bytes) i)) (row_outcome t v bytes i)
  unfolding cells_below
  four_at zero i rest h = absurd (omega arith)
  four_at (suc n) i rest h =
      let four = four_of (length (members_below (row_reading t v bytes) n)) (row_outcome t v bytes n) in
      rw (append_assoc (cells_below t v bytes n) four rest)
      (⊎_elim
      (λ e. let q : i ≡ n = e in rw (q, drop_at (cells_below t v bytes n) (four ++ rest) (4 * n) (length_cells t v bytes n))
      (take_at four rest 4 (length_four _ _)))
      (λ l. four_at n i (four ++ rest) l)
      (eq-or-lt_of_le (below h)))
    where
      below : i < suc n → i ≤ n
      below l = omega arith

module _ (f : ℕ → Field) where
  set_at : (n i : ℕ) (rest : List ℤ) → i < n
      → take (length (members_of (f i))) (drop (length (members_below f i)) (members_below f n ++ rest)) ≡ members_of (f i)
  unfolding members_below
  set_at zero i rest h = absurd (omega arith)
  set_at (suc n) i rest h =
      rw (append_assoc (members_below f n) (members_of (f n)) rest)
      (⊎_elim
      (λ e. let q : i ≡ n = e in rw (q, drop_at (members_below f n) (members_of (f n) ++ rest) (length (members_below f n)) refl)
      (take_at (members_of (f n)) rest (length (members_of (f n))) refl))
      (λ l. set_at n i (members_of (f n) ++ rest) l)
      (eq-or-lt_of_le (below h)))
    where
      below : i < suc n → i ≤ n
      below l = omega arith

-- where the set of row i starts: "the start of an empty set is the count of members before it"
abbrev pub start_of : List ℤ → List ℕ → ℕ → ℕ
start_of t bytes i = length (members_below (row_reading t (rows_of t) bytes) i)

module _ (t : List ℤ) (bytes : List ℕ) where
  -- STARTS ADD UP
  pub start_first : start_of t bytes 0 ≡ 0
  start_first = none_below (row_reading t (rows_of t) bytes)

  pub start_next : (i : ℕ) → start_of t bytes (i + 1) ≡ start_of t bytes i + length (members_of (reading_at t i bytes))
  start_next i = members_count (row_reading t (rows_of t) bytes) i

  -- what one row's reading answers, with a list that has room for its set
  pub read_row_as : (i n : ℕ) → well_formed t ≡ true → length_of t ≤ length bytes → i < rows_of t
      → length (members_of (reading_at t i bytes)) ≤ n
      → read_as t i bytes n ≡ row_outcome t (rows_of t) bytes i
  unfolding read_as
  read_row_as i n good long low room =
      rw (good, lt-ltb _ _ low, le-leb _ _ long) (outcome_room ((row_at t i).start - 1) n (row_fault t (rows_of t) bytes i)
      (reading_at t i bytes) room)

-- ---- a record that was read
module _ {t : List ℤ} {bytes : List ℕ} {out out' list list' : List ℤ} {m k : ℕ}
    (p : RecordRead t bytes out out' list list' (whole.Read m k)) where
  wrote : out' ≡ filled_of (all_cells t bytes) out
  unfolding written_by
  wrote = rw (sym p.says) at p.rows

  filled : list' ≡ filled_of (all_members t bytes) list
  unfolding written_by
  filled = rw (sym p.says) at p.leaves

  pub usable : (well_formed t ≡ true) × (length_of t ≤ length bytes)
  usable = read_of (answer_says t bytes (length out) (length list)) (sym p.says)

  -- ROW BY ROW: the four numbers of row i are those of what read_value answers with a list that has room, a set with its start
  pub row_numbers : (i n : ℕ) → i < rows_of t → length (members_of (reading_at t i bytes)) ≤ n
      → take 4 (drop (4 * i) out') ≡ four_of (start_of t bytes i) (read_as t i bytes n)
  unfolding filled_of
  row_numbers i n low room =
      rw (wrote, read_row_as t bytes i n usable.0 usable.1 low room)
      (four_at t (rows_of t) bytes (rows_of t) i (drop (length (all_cells t bytes)) out) low)

  -- THE MEMBERS of row i's set stand in the list from its start on
  pub row_members : (i : ℕ) → i < rows_of t
      → take (length (members_of (reading_at t i bytes))) (drop (start_of t bytes i) list') ≡ members_of (reading_at t i bytes)
  unfolding filled_of
  row_members i low = rw filled (set_at (row_reading t (rows_of t) bytes) (rows_of t) i (drop (length (all_members t bytes)) list) low)

  -- WHAT LIES BEYOND IS KEPT
  pub out_kept : drop (4 * rows_of t) out' ≡ drop (4 * rows_of t) out
  unfolding filled_of
  out_kept =
      let e = length_cells t (rows_of t) bytes (rows_of t) in
      rw (wrote, sym e) (drop-append_seam (all_cells t bytes) (drop (length (all_cells t bytes)) out))

  pub list_kept : drop (length (all_members t bytes)) list' ≡ drop (length (all_members t bytes)) list
  unfolding filled_of
  list_kept = rw filled (drop-append_seam (all_members t bytes) (drop (length (all_members t bytes)) list))
