-- Columns put one behind the other, each for all records: the entries of some columns side by side stand every so many cells, and what
-- stands between them stays. All columns so put are all records put.
-- Assumes nothing.
use Rattle.std.specs.Prelude.{◌≡◌, false, ℕ, zero, suc, ◌+◌, ◌-◌, ◌*◌, ◌≤◌, ◌<◌, ℤ, drop}
use Rattle.std.proofs.Math.Path.{refl, sym, ap}
use Rattle.std.proofs.Common.{◌∙◌, add-one, drop_of_length-le, drop-cons}
use mathlib.Core.List.{List, [], ◌∷◌, ◌++◌}
use Rattle.std.proofs.Math.Nat.{suc-mul}
use native.Mathlib.Omega.{arith}
use Rattle.std.proofs.Math.ListN.{length}
use Rattle.layout.specs.declared.Row.{Row}
use Rattle.fields.specs.rule.Row.{reading_of}
use Rattle.sets.specs.rule.Sets.{is_illegal}
use Rattle.little.specs.rule.Bytes.{put_at}
use Rattle.little.specs.Runs.{put_either}
use Rattle.matrix.specs.declared.Entry.{Entry}
use Rattle.matrix.specs.rule.Entry.{flags_of, value_bytes}
use Rattle.matrix.specs.Put.{put_entries}
use Rattle.matrix.specs.Entry.{length_flags, length_values, entries_none, entries_then}
use Rattle.columns.specs.rule.Columns.{Column, row_columns, columns_from, entries_of}
use Rattle.columns.specs.Columns.{entries_append, length_entries, columns_on, left_count}
use Rattle.columns.specs.Room.{Room}
use Rattle.columns.specs.Reach.{Readable}
use Rattle.matrices.specs.rule.Matrix.{matrix_entries}
use Rattle.matrices.specs.Records.{length_all}
use Rattle.matrices.specs.Entries.{record_at}

-- the entries of some columns, record by record, each record's `step` cells behind those of the record before
unfoldable pub put_columns : List ℤ → ℕ → ℕ → List Column → List ℕ → ℕ → ℕ → List (List ℕ) → List ℕ
put_columns t v step cs out f w [] = out
put_columns t v step cs out f w (r ∷ rs) = put_columns t v step cs (put_entries out f w (entries_of t v r cs)) (f + step) (w + 8 * step) rs

-- entries of which both parts stand before the other's: either order of the puts
entries_either : (r : List ℕ) (a b : ℕ) (xs : List Entry) (c d : ℕ) (ys : List Entry) → a + length xs ≤ c → c + length ys ≤ b
    → b + 8 * length xs ≤ d → put_entries (put_entries r c d ys) a b xs ≡ put_entries (put_entries r a b xs) c d ys
entries_either r a b xs c d ys h i j =
    let fx = flags_of xs in
    let fy = flags_of ys in
    let vx = value_bytes xs in
    let vy = value_bytes ys in
    let lx = length_flags xs in
    let ly = length_flags ys in
    let mx = length_values xs in
    ap (λ (l : List ℕ). put_at l b vx) (put_either (put_at r c fy) a fx d vy (omega arith))
    ∙ ap (λ (l : List ℕ). put_at (put_at l d vy) b vx) (put_either r a fx c fy (omega arith))
    ∙ put_either (put_at (put_at r a fx) c fy) b vx d vy (omega arith)
    ∙ ap (λ (l : List ℕ). put_at l d vy) (sym (put_either (put_at r a fx) c fy b vx (omega arith)))

-- the same by what each record gives
unfoldable pub put_each : (List ℕ → List Entry) → ℕ → List ℕ → ℕ → ℕ → List (List ℕ) → List ℕ
put_each g step out f w [] = out
put_each g step out f w (r ∷ rs) = put_each g step (put_entries out f w (g r)) (f + step) (w + 8 * step) rs

pub each_columns : (t : List ℤ) (v step : ℕ) (cs : List Column) (g : List ℕ → List Entry) → ((r : List ℕ) → entries_of t v r cs ≡ g r)
    → (rs : List (List ℕ)) (o : List ℕ) (f w : ℕ) → put_each g step o f w rs ≡ put_columns t v step cs o f w rs
unfolding put_each put_columns
each_columns t v step cs g h [] o f w = refl
each_columns t v step cs g h (r ∷ rs) o f w =
    ap (λ (es : List Entry). put_each g step (put_entries o f w es) (f + step) (w + 8 * step) rs) (sym (h r))
    ∙ each_columns t v step cs g h rs (put_entries o f w (entries_of t v r cs)) (f + step) (w + 8 * step)

pub before_each : (g : List ℕ → List Entry) (step : ℕ) → ((r : List ℕ) → length (g r) ≤ step) → (rs : List (List ℕ)) (o : List ℕ)
    (a b : ℕ) (xs : List Entry) (f w : ℕ) → a + length xs ≤ f → f + length rs * step ≤ b → b + 8 * length xs ≤ w
    → put_entries (put_each g step o f w rs) a b xs ≡ put_each g step (put_entries o a b xs) f w rs
unfolding put_each
before_each g step few [] o a b xs f w h j k = refl
before_each g step few (r ∷ rs) o a b xs f w h j k =
    let n = few r in
    let m = suc-mul (length rs) step in
    before_each g step few rs (put_entries o f w (g r)) a b xs (f + step) (w + 8 * step) (omega arith) (omega arith) (omega arith)
    ∙ ap (λ (l : List ℕ). put_each g step l (f + step) (w + 8 * step) rs) (entries_either o a b xs f w (g r) h (omega arith) k)

module _ (t : List ℤ) (v step : ℕ) where
  -- entries of a record before: they may be put before the columns or after them
  before_columns : (cs : List Column) (rs : List (List ℕ)) (o : List ℕ) (a b : ℕ) (xs : List Entry) (f w : ℕ) → a + length xs ≤ f
      → length cs ≤ step → f + length rs * step ≤ b → b + 8 * length xs ≤ w
      → put_entries (put_columns t v step cs o f w rs) a b xs ≡ put_columns t v step cs (put_entries o a b xs) f w rs
  before_columns cs rs o a b xs f w h i j k =
      let g : List ℕ → List Entry = λ r. entries_of t v r cs in
      ap (λ (l : List ℕ). put_entries l a b xs) (sym (each_columns t v step cs g (λ r. refl) rs o f w))
      ∙ before_each g step (λ r. rw (length_entries t v r cs) i) rs o a b xs f w h j k
      ∙ each_columns t v step cs g (λ r. refl) rs (put_entries o a b xs) f w

  -- COLUMNS SIDE BY SIDE: those in front for all records, then the others
  pub columns_then : (xs ys : List Column) (rs : List (List ℕ)) (o : List ℕ) (f w : ℕ) → length xs + length ys ≤ step
      → f + length rs * step ≤ w → put_columns t v step (xs ++ ys) o f w rs
      ≡ put_columns t v step ys (put_columns t v step xs o f w rs) (f + length xs) (w + 8 * length xs) rs
  unfolding put_columns
  columns_then xs ys [] o f w h i = refl
  columns_then xs ys (r ∷ rs) o f w h i =
      let ex = entries_of t v r xs in
      let ey = entries_of t v r ys in
      let nx = length_entries t v r xs in
      let ny = length_entries t v r ys in
      let m = suc-mul (length rs) step in
      let p : f + step + length xs ≡ f + length xs + step = omega arith in
      let q : w + 8 * step + 8 * length xs ≡ w + 8 * length xs + 8 * step = omega arith in
      let one : put_entries o f w (entries_of t v r (xs ++ ys))
      ≡ put_entries (put_entries o f w ex) (f + length xs) (w + 8 * length xs) ey =
      ap (λ (es : List Entry). put_entries o f w es) (entries_append t v r xs ys)
      ∙ sym (entries_then o f w ex ey (omega arith))
      ∙ ap (λ (n : ℕ). put_entries (put_entries o f w ex) (f + n) (w + 8 * n) ey) nx in
      columns_then xs ys rs (put_entries o f w (entries_of t v r (xs ++ ys))) (f + step) (w + 8 * step) h (omega arith)
      ∙ ap (λ (l : List ℕ). put_columns t v step ys (put_columns t v step xs l (f + step) (w + 8 * step) rs)
      (f + step + length xs) (w + 8 * step + 8 * length xs) rs) one
      ∙ ap (λ (l : List ℕ). put_columns t v step ys l (f + step + length xs) (w + 8 * step + 8 * length xs) rs)
      (sym (before_columns xs rs (put_entries o f w ex) (f + length xs) (w + 8 * length xs) ey (f + step) (w + 8 * step) (omega arith)
      (omega arith) (omega arith) (omega arith)))
      ∙ ap (λ (n : ℕ). put_columns t v step ys
      (put_entries (put_columns t v step xs (put_entries o f w ex) (f + step) (w + 8 * step) rs) (f + length xs) (w + 8 * length xs) ey)
      n (w + 8 * step + 8 * length xs) rs) p
      ∙ ap (λ (n : ℕ). put_columns t v step ys
      (put_entries (put_columns t v step xs (put_entries o f w ex) (f + step) (w + 8 * step) rs) (f + length xs) (w + 8 * length xs) ey)
      (f + length xs + step) n rs) q

  -- ALL COLUMNS are all records
  pub columns_whole : (cs : List Column) (rs : List (List ℕ)) (o : List ℕ) (f w : ℕ) → length cs ≡ step → f + length rs * step ≤ w
      → put_columns t v step cs o f w rs ≡ put_entries o f w (matrix_entries t v cs rs)
  unfolding put_columns matrix_entries
  columns_whole cs [] o f w h i = sym (entries_none o f w)
  columns_whole cs (r ∷ rs) o f w h i =
      let e = entries_of t v r cs in
      let n : length e ≡ step = length_entries t v r cs ∙ h in
      let m = suc-mul (length rs) step in
      columns_whole cs rs (put_entries o f w e) (f + step) (w + 8 * step) h (omega arith)
      ∙ ap (λ (k : ℕ). put_entries (put_entries o f w e) (f + k) (w + 8 * k) (matrix_entries t v cs rs)) (sym n)
      ∙ entries_then o f w e (matrix_entries t v cs rs) (omega (arith, n, m, length_all t v cs rs, ap (λ (x : ℕ). length rs * x) h))

  -- no column is nothing put, and a record more
  pub columns_nothing : {cs : List Column} → cs ≡ [] → (rs : List (List ℕ)) (o : List ℕ) (f w : ℕ) → put_columns t v step cs o f w rs ≡ o
  unfolding put_columns entries_of
  columns_nothing {cs} e rs o f w = ap (λ (l : List Column). put_columns t v step l o f w rs) e ∙ go rs o f w
    where
      go : (rs : List (List ℕ)) (o : List ℕ) (f w : ℕ) → put_columns t v step [] o f w rs ≡ o
      go [] o f w = refl
      go (r ∷ rs) o f w =
          ap (λ (l : List ℕ). put_columns t v step [] l (f + step) (w + 8 * step) rs) (entries_none o f w)
          ∙ go rs o (f + step) (w + 8 * step)

-- ---- record by record
pub each_next : (g : List ℕ → List Entry) (step : ℕ) {rs rest : List (List ℕ)} {r : List ℕ} → rs ≡ r ∷ rest → (o : List ℕ) (f w : ℕ)
    → put_each g step o f w rs ≡ put_each g step (put_entries o f w (g r)) (f + step) (w + 8 * step) rest
unfolding put_each
each_next g step e o f w = rw e

pub each_over : (g : List ℕ → List Entry) (step : ℕ) {rs : List (List ℕ)} → rs ≡ [] → (o : List ℕ) (f w : ℕ) → put_each g step o f w rs ≡ o
unfolding put_each
each_over g step e o f w = rw e

-- room for the entries of a row in every record
abbrev pub EachRoom : ℕ → ℕ → ℕ → ℕ → ℕ → ℕ → Type 0
EachRoom flags values size step count records =
    (n : ℕ) → n < records → Room (flags + n * step) (values + 8 * (n * step)) size count

-- a row that every record is long enough for, and in which it is legal
abbrev pub EachReadable : List ℤ → ℕ → Row → List (List ℕ) → Type 0
EachReadable t v r rs =
    (n : ℕ) → n < length rs → Readable t v r (length (record_at rs n)) × (is_illegal (reading_of t v r (record_at rs n)) ≡ false)

pub cells_below : (n m step : ℕ) → n < m → n * step + step ≤ m * step
cells_below n zero step h = absurd (omega arith)
cells_below zero (suc m) step h = omega (arith, suc-mul m step)
cells_below (suc n) (suc m) step h = omega (arith, suc-mul n step, suc-mul m step, cells_below n m step (omega arith))

pub each_room : {flags values size records step all : ℕ} → Room flags values size all → all ≡ records * step → (k count : ℕ)
    → k + count ≤ step → EachRoom (flags + k) (values + 8 * k) size step count records
each_room {records} {step} r e k count h n l =
    let c = cells_below n records step l in
    let b = r.behind in
    let i = r.inside in
    record { behind = omega arith; inside = omega arith }

pub more_cells : (n step : ℕ) → (n + 1) * step ≡ n * step + step
more_cells n step = rw (add-one n) (omega (arith, suc-mul n step))

-- one record more, and the last one
pub each_step : (g : List ℕ → List Entry) (step : ℕ) (rs : List (List ℕ)) (n k f w : ℕ) (o : List ℕ) {o' r whole : List ℕ} → n < length rs
    → record_at rs n ≡ r → o' ≡ put_entries o (f + k) (w + 8 * k) (g r) → put_each g step o (f + k) (w + 8 * k) (drop n rs) ≡ whole
    → put_each g step o' (f + (k + step)) (w + 8 * (k + step)) (drop (n + 1) rs) ≡ whole
each_step g step rs n k f w o {o'} {r} {whole} h e p q =
    let a : f + (k + step) ≡ f + k + step = omega arith in
    let b : w + 8 * (k + step) ≡ w + 8 * k + 8 * step = omega arith in
    let d : drop n rs ≡ r ∷ drop (n + 1) rs = drop-cons rs n [] h ∙ ap (λ (x : List ℕ). x ∷ drop (suc n) rs) e
    ∙ ap (λ (i : ℕ). r ∷ drop i rs) (sym (add-one n)) in
    ap (λ (x : List ℕ). put_each g step x (f + (k + step)) (w + 8 * (k + step)) (drop (n + 1) rs)) p
    ∙ ap (λ (x : ℕ). put_each g step (put_entries o (f + k) (w + 8 * k) (g r)) x (w + 8 * (k + step)) (drop (n + 1) rs)) a
    ∙ ap (λ (x : ℕ). put_each g step (put_entries o (f + k) (w + 8 * k) (g r)) (f + k + step) x (drop (n + 1) rs)) b
    ∙ sym (each_next g step d o (f + k) (w + 8 * k))
    ∙ q

pub each_done : (g : List ℕ → List Entry) (step : ℕ) (rs : List (List ℕ)) (n f w : ℕ) {o whole : List ℕ} → length rs ≤ n
    → put_each g step o f w (drop n rs) ≡ whole → o ≡ whole
each_done g step rs n f w {o} h q = sym (each_over g step (drop_of_length-le rs h) o f w) ∙ q

-- one row's columns more, and the last ones
module _ (t : List ℤ) (v step : ℕ) (rs : List (List ℕ)) where
  pub row_step : (i k f w : ℕ) (o : List ℕ) {o' whole : List ℕ} → i < v → k + length (columns_from t v i (v - i)) ≡ step
      → f + length rs * step ≤ w → o' ≡ put_columns t v step (row_columns t v i) o (f + k) (w + 8 * k) rs
      → put_columns t v step (columns_from t v i (v - i)) o (f + k) (w + 8 * k) rs ≡ whole
      → {m : ℕ} → m ≡ length (row_columns t v i)
      → put_columns t v step (columns_from t v (i + 1) (v - (i + 1))) o' (f + (k + m)) (w + 8 * (k + m)) rs ≡ whole
  row_step i k f w o {o'} {whole} h e b p q {m} em =
      let xs = row_columns t v i in
      let ys = columns_from t v (i + 1) (v - (i + 1)) in
      let c = left_count t v [] i h in
      let a : f + (k + m) ≡ f + k + length xs = omega arith in
      let d : w + 8 * (k + m) ≡ w + 8 * k + 8 * length xs = omega arith in
      ap (λ (x : List ℕ). put_columns t v step ys x (f + (k + m)) (w + 8 * (k + m)) rs) p
      ∙ ap (λ (x : ℕ). put_columns t v step ys (put_columns t v step xs o (f + k) (w + 8 * k) rs) x (w + 8 * (k + m)) rs) a
      ∙ ap (λ (x : ℕ). put_columns t v step ys (put_columns t v step xs o (f + k) (w + 8 * k) rs) (f + k + length xs) x rs) d
      ∙ sym (columns_then t v step xs ys rs o (f + k) (w + 8 * k) (omega arith) (omega arith))
      ∙ ap (λ (cs : List Column). put_columns t v step cs o (f + k) (w + 8 * k) rs) (sym (columns_on t v i h))
      ∙ q
