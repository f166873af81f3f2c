-- The answers of the public calls, by the tests that led to them.
-- Assumes nothing.
use mathlib.Core.Path.{◌≡◌, refl, sym, ap, ◌∙◌}
use mathlib.Core.Bool.{Bool, true, false, cond}
use mathlib.Core.List.{List}
use mathlib.Core.Logic.{⊎_elim}
use Prim.Native.Nat.{ℕ, zero, suc, ◌+◌, ◌-◌, ◌≤◌, ◌<◌}
use native.Mathlib.Numerals.{add-one}
use native.Mathlib.Omega.{arith}
use borrow.Author.Tests.{lt-ltb, le-ltb, le-leb, lt-leb}
use lib.IntN.{ℤ}
use lib.ListN.{length}
use Rattle.std.specs.Prelude.{Some, None}
use native.Mathlib.Nat.{eq-or-lt_of_le, sub-eq-zero_of_le}
use Rattle.layout.specs.rule.Layout.{header_of}
use Rattle.layout.specs.rule.Row.{row_at}
use Rattle.layout.specs.declared.Header.{Header}
use Rattle.layout.specs.declared.Row.{Row}
use Rattle.fields.specs.rule.Row.{reading_of}
use Rattle.readings.specs.Answer.{RowRead}
use Rattle.readings.specs.Ready.{RowReady, Plain}
use Rattle.readings.specs.declared.Answer.{Answer}
use Rattle.faults.specs.rule.Fault.{fault_of}
use Rattle.sound.specs.rule.Sound.{well_formed}
use Rattle.sound.specs.rule.Rows.{rows_of, length_of}
use Rattle.lows.specs.rule.Lows.{low_at}
use Rattle.records.specs.rule.First.{first_from, bad_row}
use Rattle.records.specs.rule.Value.{said, read_as, list_as, reading_at, ValueRead}
use Rattle.records.specs.Value.{said_by, said_answer}
use Rattle.records.specs.rule.Verdict.{Verdict, rows_verdict, row_verdict, byte_verdict, verdict_of, sound, refused, RecordJudged}
use Rattle.records.specs.Tables.{TableReady, table_ready}
use Rattle.records.specs.declared.Reading.{Reading}
use Rattle.records.specs.declared.Reading.TheVariants as reading

-- ---- the first number that passes
module _ (f : ℕ → Bool) (n i : ℕ) (h : i < n) where
  more : n - i ≡ suc (n - (i + 1))
  more = omega arith

  pub first_here : f i ≡ true → first_from f i (n - i) ≡ Some i
  unfolding first_from
  first_here e = rw (more, e)

  pub first_on : f i ≡ false → first_from f i (n - i) ≡ first_from f (i + 1) (n - (i + 1))
  unfolding first_from
  first_on e = rw (more, e, add-one i)

pub first_none : (f : ℕ → Bool) (n i : ℕ) → n ≤ i → first_from f i (n - i) ≡ None
unfolding first_from
first_none f n i h = rw (sub-eq-zero_of_le h)

pub first_nowhere : (f : ℕ → Bool) (n i : ℕ) → first_from f i n ≡ None → (j : ℕ) → i ≤ j → j < i + n → f j ≡ false
unfolding first_from
first_nowhere f zero i e j a b = absurd (omega arith)
first_nowhere f (suc n) i e j a b = go (f i) refl e (λ q l. first_nowhere f n (suc i) q j l (omega arith))
  where
    go : (c : Bool) → f i ≡ c → cond c (Some i) (first_from f (suc i) n) ≡ None
        → (first_from f (suc i) n ≡ None → suc i ≤ j → f j ≡ false) → f j ≡ false
    go true z q h = let o : ◌≡◌ {A = ℕ} 0 1 = cc in absurd (omega arith)
    go false z q h = ⊎_elim (λ m. ap f (sym m) ∙ z) (λ m. h q (omega arith)) (eq-or-lt_of_le a)

-- it is one of them
pub first_inside : (f : ℕ → Bool) (n i k : ℕ) → first_from f i n ≡ Some k → k < i + n
unfolding first_from
first_inside f zero i k e = let o : ◌≡◌ {A = ℕ} 0 1 = cc in absurd (omega arith)
first_inside f (suc n) i k e = go (f i) e (first_inside f n (suc i) k)
  where
    go : (c : Bool) → cond c (Some i) (first_from f (suc i) n) ≡ Some k → (first_from f (suc i) n ≡ Some k → k < suc i + n) → k < i + suc n
    go true q h = let o : i ≡ k = cc in omega arith
    go false q h = let l = h q in omega arith

-- numbers at which it fails are passed together
module _ (f : ℕ → Bool) (n : ℕ) where
  first_past : (k i : ℕ) → i + k ≤ n → ((j : ℕ) → i ≤ j → j < i + k → f j ≡ false) → first_from f i (n - i)
      ≡ first_from f (i + k) (n - (i + k))
  first_past zero i h g = let e : i + 0 ≡ i = omega arith in rw e
  first_past (suc k) i h g =
      let e : i + suc k ≡ i + 1 + k = omega arith in
      first_on f n i (omega arith) (g i (omega arith) (omega arith))
      ∙ rw e (first_past k (i + 1) (omega arith) (λ j a b. g j (omega arith) (omega arith)))

  pub first_clear : (to : ℕ) → to ≤ n → ((j : ℕ) → 0 ≤ j → j < to → f j ≡ false) → first_from f to (n - to) ≡ first_from f 0 n
  first_clear to h g =
      let e : 0 + to ≡ to = omega arith in
      let z : n - 0 ≡ n = omega arith in
      sym (rw (e, z) at (first_past to 0 (rw e h) (λ j a b. g j a (rw e at b))))

-- a record has no byte below 32 where none is found
pub plain_found : (bytes : List ℕ) → first_from (low_at bytes) 0 (length bytes) ≡ None → Plain bytes
plain_found bytes e j h = first_nowhere (low_at bytes) (length bytes) 0 e j (omega arith) (omega arith)

pub first_of_plain : (bytes : List ℕ) → Plain bytes → first_from (low_at bytes) 0 (length bytes) ≡ None
first_of_plain bytes h =
    let n = length bytes in
    sym (first_clear (low_at bytes) n n (omega arith) (λ j a b. h j b)) ∙ first_none (low_at bytes) n n (omega arith)

-- a record without a byte below 32 in which every row is legal is sound
pub all_legal : (t : List ℤ) (v : ℕ) (bytes : List ℕ) → Plain bytes → ((i : ℕ) → i < v → bad_row t v bytes i ≡ false)
    → rows_verdict t v bytes ≡ sound
unfolding rows_verdict byte_verdict row_verdict
all_legal t v bytes p h =
    let e : first_from (bad_row t v bytes) 0 v ≡ None =
    sym (first_clear (bad_row t v bytes) v v (omega arith) (λ j a b. h j b)) ∙ first_none (bad_row t v bytes) v v (omega arith) in
    rw (first_of_plain bytes p, e)

-- ---- reading one row
module _ (t : List ℤ) (i : ℕ) (bytes : List ℕ) (list : List ℤ) where
  pub value_table : well_formed t ≡ false → ValueRead t i bytes list list (said reading.BadTable)
  unfolding said read_as list_as
  value_table e = record { says = rw e; leaves = rw e }

  module _ (good : well_formed t ≡ true) (h : Header) (head : h ≡ header_of t) where
    pub value_row : h.rows ≤ i → ValueRead t i bytes list list (said reading.NoRow)
    unfolding said read_as list_as
    value_row l = let k : rows_of t ≤ i = rw head at l in record { says = rw (good, le-ltb _ _ k); leaves = rw (good, le-ltb _ _ k) }

    module _ (low : i < h.rows) where
      low_is : i < rows_of t
      low_is = rw head at low

      pub value_short : length bytes < h.length → ValueRead t i bytes list list (said reading.ShortRecord)
      unfolding said read_as list_as
      value_short l =
          let k : length bytes < length_of t = rw head at l in
          record { says = rw (good, lt-ltb _ _ low_is, lt-leb _ _ k); leaves = rw (good, lt-ltb _ _ low_is, lt-leb _ _ k) }

      module _ (long : h.length ≤ length bytes) (row : Row) (is : row ≡ row_at t i) where
        long_is : length_of t ≤ length bytes
        long_is = rw head at long

        pub row_ready : RowReady t h.rows row (length bytes)
        row_ready = rw (head, is) ((table_ready t good (length bytes) long_is).row i low_is)

        pub value_read : (list' : List ℤ) (a : Answer) (r : Reading)
            → RowRead (row.start - 1) (reading_of t h.rows row bytes) list list' a
            → said r ≡ said_by (fault_of t h.rows row bytes) a → ValueRead t i bytes list list' (said r)
        unfolding read_as list_as
        value_read list' a r q e =
            let b : RowRead ((row_at t i).start - 1) (reading_at t i bytes) list list' a = rw (head, is) at q in
            let x : said r ≡ said_by (fault_of t (rows_of t) (row_at t i) bytes) a = rw (head, is) at e in
            record {
              says = rw (good, lt-ltb _ _ low_is, le-leb _ _ long_is)
                  (x ∙ ap (said_by (fault_of t (rows_of t) (row_at t i) bytes)) b.answer ∙ said_answer _ _ _ _);
              leaves = rw (good, lt-ltb _ _ low_is, le-leb _ _ long_is) b.leaves;
            }

-- ---- judging a record
module _ (t : List ℤ) (bytes : List ℕ) where
  pub verdict_table : well_formed t ≡ false → RecordJudged t bytes (refused 20)
  unfolding verdict_of
  verdict_table e = record { says = rw e }

  module _ (good : well_formed t ≡ true) (h : Header) (head : h ≡ header_of t) where
    pub verdict_short : length bytes < h.length → RecordJudged t bytes (refused 22)
    unfolding verdict_of
    verdict_short l = let k : length bytes < length_of t = rw head at l in record { says = rw (good, lt-leb _ _ k) }

    module _ (long : h.length ≤ length bytes) where
      reaches : length_of t ≤ length bytes
      reaches = rw head at long

      pub rows_ready : TableReady t h.rows (length bytes)
      rows_ready = rw head (table_ready t good (length bytes) reaches)

      pub verdict_rows : {v : Verdict} → v ≡ rows_verdict t h.rows bytes → RecordJudged t bytes v
      unfolding verdict_of
      verdict_rows e = record { says = e ∙ rw (head, good, le-leb _ _ reaches) }
