-- A row's columns put for all records stand in the output as they were put; and summaries put before all of them leave them as they are.
-- Assumes nothing.
use Rattle.std.specs.Prelude.{◌≡◌, Bool, not, T, eqb, ℤ, get_or, take, drop}
use Rattle.std.proofs.Math.Path.{refl, sym, ap}
use Rattle.std.proofs.Common.{◌∙◌, subst, suc-mul, add-one, length-append, drop_of_length-le, take-append-drop, drop-cons, drop-drop}
use Rattle.std.proofs.Common.{take_at}
use Rattle.std.proofs.Math.Bool.{true, false, cond}
use mathlib.Core.List.{List, [], ◌∷◌, ◌++◌, append_assoc}
use Prim.Native.Nat.{ℕ, zero, suc, ◌+◌, ◌-◌, ◌*◌, ◌≤◌, ◌<◌}
use native.Mathlib.Omega.{arith}
use Rattle.std.proofs.Math.ListN.{length}
use Rattle.std.proofs.Math.Seq.{drop-append-add}
use Rattle.std.specs.Float.{binary64}
use Rattle.std.specs.Float.Ieee.{of_bits, nan_bits}
use Rattle.little.specs.rule.Bytes.{put_at}
use Rattle.little.specs.Bytes.{number_at}
use Rattle.little.specs.Runs.{put_next, put_either, put_back}
use Rattle.little.specs.Back.{bits_real}
use Rattle.summary.specs.rule.Summary.{summary_of}
use Rattle.matrix.specs.declared.Entry.{Entry}
use Rattle.matrix.specs.declared.Entry.TheVariants.{Absent, Scaled}
use Rattle.matrix.specs.rule.Entry.{presence_of, float_of, flags_of, value_bytes, present_of}
use Rattle.matrix.specs.rule.Bytes.{summary_bytes}
use Rattle.matrix.specs.Bytes.{length_summary}
use Rattle.matrix.specs.Put.{put_entries}
use Rattle.matrix.specs.Entry.{entry_real, entry_fits}
use Rattle.matrix.specs.Entry.{length_entries}
use Rattle.matrix.specs.Column.{ColumnThere, column_in}
use Rattle.matrix.specs.Stride.{AllGood, good_at, presence_there, bits_there, float_there}
use Rattle.columns.specs.rule.Columns.{Column, of_row, row_columns, columns_from, entry_of, entries_of}
use Rattle.columns.specs.Columns.{columns_on, columns_none, left_count}
use Rattle.columns.specs.Room.{Room}
use Rattle.matrices.specs.rule.Matrix.{column_entries, summaries_of}
use Rattle.matrices.specs.Entries.{column_at, record_at, entry_at}
use Rattle.matrices.specs.Blocks.{put_columns, put_each, EachRoom, before_each, columns_nothing, row_step}
use Rattle.matrices.specs.Met.{entries_at, values_at, mark_at, MetColumn, RowMet, met_as}
use Rattle.matrices.specs.Summaries.{ColumnsThere, summaries_in, put_nothing}

-- the summaries of some columns, where they are told
unfoldable pub slots_of : Bool → List ℤ → ℕ → List (List ℕ) → List Column → List ℕ
slots_of told t v rs cs = cond told (summaries_of t v rs cs) []

-- the entries that each record gives are converted exactly
abbrev pub EachGood : (List ℕ → List Entry) → List (List ℕ) → Type 0
EachGood g rs = (n : ℕ) → n < length rs → AllGood (g (record_at rs n))

-- ---- what stands
module _ (g : List ℕ → List Entry) (count step : ℕ) (long : (r : List ℕ) → length (g r) ≡ count) (few : count ≤ step) where
  length_each : (rs : List (List ℕ)) (o : List ℕ) (f w : ℕ) → length (put_each g step o f w rs) ≡ length o
  unfolding put_each
  length_each [] o f w = refl
  length_each (r ∷ rs) o f w = length_each rs (put_entries o f w (g r)) (f + step) (w + 8 * step) ∙ length_entries o f w (g r)

  room_tail : (r : List ℕ) (rs : List (List ℕ)) (o : List ℕ) (f w : ℕ) → EachRoom f w (length o) step count (length (r ∷ rs))
      → EachRoom (f + step) (w + 8 * step) (length (put_entries o f w (g r))) step count (length rs)
  room_tail r rs o f w room n l =
      let m = suc-mul n step in
      let e = length_entries o f w (g r) in
      let x = room (suc n) (omega arith) in
      let b = x.behind in
      let i = x.inside in
      record { behind = omega arith; inside = omega arith }

  -- the first record's entries put last
  module _ (r : List ℕ) (rs : List (List ℕ)) (o : List ℕ) (f w : ℕ) (apart : f + length (r ∷ rs) * step ≤ w)
      (room : EachRoom f w (length o) step count (length (r ∷ rs))) where
    abbrev others : List ℕ
    others = put_each g step o (f + step) (w + 8 * step) rs

    abbrev all : List ℕ
    all = put_each g step (put_entries o f w (g r)) (f + step) (w + 8 * step) rs

    flip : put_entries others f w (g r) ≡ all
    flip =
        let n = long r in
        let m = suc-mul (length rs) step in
        before_each g step (λ x. rw (long x) few) rs o f w (g r) (f + step) (w + 8 * step) (omega arith) (omega arith) (omega arith)

    first : Room f w (length o) count
    first =
        let z : 0 * step ≡ 0 = omega arith in
        let x = room 0 (omega arith) in
        let b = x.behind in
        let i = x.inside in
        record { behind = omega arith; inside = omega arith }

    behind_first : f + length (g r) ≤ w
    behind_first = omega (arith, long r, first.behind)

    inside_first : w + 8 * length (g r) ≤ length others
    inside_first = omega (arith, long r, first.inside, length_each rs o (f + step) (w + 8 * step))

    tail_apart : f + step + length rs * step ≤ w + 8 * step
    tail_apart = omega (arith, apart, suc-mul (length rs) step)

    module _ (j : ℕ) (low : j < count) where
      low_here : j < length (g r)
      low_here = rw (long r) low

      flag_here : get_or all (f + j) 0 ≡ presence_of (get_or (g r) j Absent)
      flag_here = ap (λ (l : List ℕ). get_or l (f + j) 0) (sym flip) ∙ presence_there others f w (g r) behind_first inside_first j low_here

      float_here : of_bits binary64 (number_at 8 (w + 8 * j) all) ≡ float_of (get_or (g r) j Absent)
      float_here = ap (λ (l : List ℕ). of_bits binary64 (number_at 8 (w + 8 * j) l)) (sym flip)
          ∙ float_there others f w (g r) behind_first inside_first j low_here

      real_here : AllGood (g r) → (f + j < length all) × (w + 8 * j + 8 ≤ length all)
          × T (not (nan_bits binary64 (number_at 8 (w + 8 * j) all)))
      real_here good =
          let e = get_or (g r) j Absent in
          let l = length_each rs (put_entries o f w (g r)) (f + step) (w + 8 * step) in
          let k = length_entries o f w (g r) in
          let x = first in (
            omega (arith, x.behind, x.inside),
            omega (arith, x.inside),
            rw (← flip, bits_there others f w (g r) behind_first inside_first j low_here)
                (bits_real (float_of e) (entry_fits e) (entry_real e (good_at (g r) j good))),
          )

  -- A COLUMN
  pub each_column : (rs : List (List ℕ)) (o : List ℕ) (f w j : ℕ) → j < count → f + length rs * step ≤ w
      → EachRoom f w (length o) step count (length rs)
      → column_in (put_each g step o f w rs) step (f + j) (w + 8 * j) (length rs) ≡ values_at g j rs
  unfolding column_in put_each entries_at present_of presence_of float_of
  each_column [] o f w j low apart room = refl
  each_column (r ∷ rs) o f w j low apart room =
      let x : f + j + step ≡ f + step + j = omega arith in
      let y : w + 8 * j + 8 * step ≡ w + 8 * step + 8 * j = omega arith in
      rw (
        flag_here r rs o f w apart room j low,
        float_here r rs o f w apart room j low,
        x,
        y,
        each_column rs (put_entries o f w (g r)) (f + step) (w + 8 * step) j low (tail_apart r rs o f w apart room)
            (room_tail r rs o f w room),
      )
      (go (get_or (g r) j Absent))
    where
      go : (e : Entry) → cond (eqb (presence_of e) 1) (float_of e ∷ values_at g j rs) (values_at g j rs)
          ≡ present_of (e ∷ entries_at g j rs)
      go Absent = refl
      go (Scaled z p) = refl

  pub each_there : (rs : List (List ℕ)) (o : List ℕ) (f w j : ℕ) → j < count → f + length rs * step ≤ w
      → EachRoom f w (length o) step count (length rs) → EachGood g rs
      → ColumnThere (put_each g step o f w rs) step (f + j) (w + 8 * j) (length rs)
  unfolding ColumnThere put_each
  each_there [] o f w j low apart room good = tt
  each_there (r ∷ rs) o f w j low apart room good =
      let x : f + j + step ≡ f + step + j = omega arith in
      let y : w + 8 * j + 8 * step ≡ w + 8 * step + 8 * j = omega arith in
      let h = real_here r rs o f w apart room j low (good 0 (omega arith)) in (
        h.0,
        h.1,
        h.2,
        rw (x, y) (each_there rs (put_entries o f w (g r)) (f + step) (w + 8 * step) j low (tail_apart r rs o f w apart room)
            (room_tail r rs o f w room) (λ n l. good (suc n) (omega arith))),
      )

  there_from : (rs : List (List ℕ)) (o : List ℕ) (f w : ℕ) → f + length rs * step ≤ w
      → EachRoom f w (length o) step count (length rs) → EachGood g rs
      → (n k : ℕ) → n + k ≡ count → ColumnsThere (put_each g step o f w rs) step (f + k) (w + 8 * k) (length rs) n
  unfolding ColumnsThere
  there_from rs o f w apart room good zero k e = tt
  there_from rs o f w apart room good (suc n) k e =
      let x : f + k + 1 ≡ f + suc k = omega arith in
      let y : w + 8 * k + 8 ≡ w + 8 * suc k = omega arith in (
        each_there rs o f w k (omega arith) apart room good,
        rw (x, y) (there_from rs o f w apart room good n (suc k) (omega arith)),
      )

  -- ALL COLUMNS of the row
  pub all_there_each : (rs : List (List ℕ)) (o : List ℕ) (f w : ℕ) → f + length rs * step ≤ w
      → EachRoom f w (length o) step count (length rs) → EachGood g rs
      → ColumnsThere (put_each g step o f w rs) step f w (length rs) count
  all_there_each rs o f w apart room good =
      let x : f + 0 ≡ f = omega arith in
      let y : w + 8 * 0 ≡ w = omega arith in
      rw (x, y) at (there_from rs o f w apart room good count 0 (omega arith))

  -- the same of an output that is so
  module _ (rs : List (List ℕ)) (o : List ℕ) (f w : ℕ) {records : ℕ} (many : records ≡ length rs) (apart : f + records * step ≤ w)
      (room : EachRoom f w (length o) step count records) {out : List ℕ} (is : out ≡ put_each g step o f w rs) where
    apart_as : f + length rs * step ≤ w
    apart_as = omega (arith, apart, ap (λ (x : ℕ). x * step) many)

    room_as : EachRoom f w (length o) step count (length rs)
    room_as n l = room n (omega (arith, l, many))

    pub row_there : EachGood g rs → ColumnsThere out step f w records count
    row_there good =
        subst (λ (k : ℕ). ColumnsThere out step f w k count) (sym many)
        (subst (λ (x : List ℕ). ColumnsThere x step f w (length rs) count) (sym is) (all_there_each rs o f w apart_as room_as good))

    pub row_met : (gap n : ℕ) (marks : List ℕ) → RowMet g gap count n marks rs → (j : ℕ) → j < count
        → MetColumn (column_in out step (f + j) (w + 8 * j) records) n (mark_at gap marks (j + 1))
    row_met gap n marks a j l =
        met_as
        (sym (ap (λ (x : List ℕ). column_in x step (f + j) (w + 8 * j) records) is
        ∙ ap (λ (k : ℕ). column_in (put_each g step o f w rs) step (f + j) (w + 8 * j) k) many
        ∙ each_column rs o f w j l apart_as room_as))
        (ap (mark_at gap marks) (add-one j)) (a j l)

-- the values of a column are those of its entries
pub column_values : (t : List ℤ) (v : ℕ) (cs : List Column) (g : List ℕ → List Entry) → ((r : List ℕ) → entries_of t v r cs ≡ g r)
    → (rs : List (List ℕ)) (j : ℕ) → j < length cs → entries_at g j rs ≡ column_entries t v (column_at cs j) rs
unfolding entries_at column_entries
column_values t v cs g h [] j l = refl
column_values t v cs g h (r ∷ rs) j l =
    ap (λ (es : List Entry). get_or es j Absent ∷ entries_at g j rs) (sym (h r))
    ∙ ap (λ (e : Entry). e ∷ entries_at g j rs) (entry_at t v cs r cs j l)
    ∙ ap (λ (es : List Entry). ◌∷◌ (entry_of t v r (column_at cs j)) es) (column_values t v cs g h rs j l)

-- THE SUMMARIES of columns that stand
module _ (t : List ℤ) (v : ℕ) (cs : List Column) (rs : List (List ℕ)) (out : List ℕ) (step f w : ℕ)
    (stand : (k : ℕ) → k < length cs → column_in out step (f + k) (w + 8 * k) (length rs)
    ≡ present_of (column_entries t v (column_at cs k) rs))
  where
    summaries_from : (n k : ℕ) → n + k ≡ length cs → summaries_in out step (f + k) (w + 8 * k) (length rs) n
        ≡ summaries_of t v rs (drop k cs)
    unfolding summaries_in summaries_of
    summaries_from zero k e = let h : length cs ≤ k = omega arith in rw (drop_of_length-le cs h)
    summaries_from (suc n) k e =
        let h : k < length cs = omega arith in
        let x : f + k + 1 ≡ f + suc k = omega arith in
        let y : w + 8 * k + 8 ≡ w + 8 * suc k = omega arith in
        rw (drop-cons cs k (of_row 0) h, stand k h, x, y, summaries_from n (suc k) (omega arith))

    pub summaries_stand : summaries_in out step f w (length rs) (length cs) ≡ summaries_of t v rs cs
    summaries_stand =
        let x : f + 0 ≡ f = omega arith in
        let y : w + 8 * 0 ≡ w = omega arith in
        ap (λ (i : ℕ). summaries_in out step i w (length rs) (length cs)) (sym x)
        ∙ ap (λ (i : ℕ). summaries_in out step (f + 0) i (length rs) (length cs)) (sym y)
        ∙ summaries_from (length cs) 0 (omega arith)

pub row_summaries : (t : List ℤ) (v : ℕ) (cs : List Column) (g : List ℕ → List Entry) (step : ℕ)
    → ((r : List ℕ) → entries_of t v r cs ≡ g r)
    → ((r : List ℕ) → length (g r) ≡ length cs) → length cs ≤ step → (rs : List (List ℕ)) (o : List ℕ) (f w : ℕ)
    → f + length rs * step ≤ w → EachRoom f w (length o) step (length cs) (length rs)
    → summaries_in (put_each g step o f w rs) step f w (length rs) (length cs) ≡ summaries_of t v rs cs
row_summaries t v cs g step h long few rs o f w apart room =
    summaries_stand t v cs rs (put_each g step o f w rs) step f w
    (λ k l. each_column g (length cs) step long few rs o f w k l apart room ∙ ap present_of (column_values t v cs g h rs k l))

-- ---- summaries put before the columns
pub entries_put_before : (o : List ℕ) (a : ℕ) (s : List ℕ) (f w : ℕ) (es : List Entry) → a + length s ≤ f → a + length s ≤ w
    → put_entries (put_at o a s) f w es ≡ put_at (put_entries o f w es) a s
entries_put_before o a s f w es h i =
    sym (put_either (put_at o f (flags_of es)) a s w (value_bytes es) i
    ∙ ap (λ (l : List ℕ). put_at l w (value_bytes es)) (put_either o a s f (flags_of es) h))

pub length_summaries : (t : List ℤ) (v : ℕ) (rs : List (List ℕ)) (cs : List Column) → length (summaries_of t v rs cs) ≡ 24 * length cs
unfolding summaries_of
length_summaries t v rs [] = refl
length_summaries t v rs (c ∷ cs) =
    let s = summary_of (present_of (column_entries t v c rs)) in
    omega (arith, length-append (summary_bytes s) (summaries_of t v rs cs), length_summary s, length_summaries t v rs cs)

summaries_append : (t : List ℤ) (v : ℕ) (rs : List (List ℕ)) (xs ys : List Column)
    → summaries_of t v rs (xs ++ ys) ≡ summaries_of t v rs xs ++ summaries_of t v rs ys
unfolding summaries_of
summaries_append t v rs [] ys = refl
summaries_append t v rs (x ∷ xs) ys =
    let b = summary_bytes (summary_of (present_of (column_entries t v x rs))) in
    ap (λ (l : List ℕ). b ++ l) (summaries_append t v rs xs ys) ∙ sym (append_assoc b (summaries_of t v rs xs) (summaries_of t v rs ys))

module _ (t : List ℤ) (v step : ℕ) where
  columns_put_before : (cs : List Column) (rs : List (List ℕ)) (o : List ℕ) (a : ℕ) (s : List ℕ) (f w : ℕ) → a + length s ≤ f
      → a + length s ≤ w → put_columns t v step cs (put_at o a s) f w rs ≡ put_at (put_columns t v step cs o f w rs) a s
  unfolding put_columns
  columns_put_before cs [] o a s f w h i = refl
  columns_put_before cs (r ∷ rs) o a s f w h i =
      ap (λ (l : List ℕ). put_columns t v step cs l (f + step) (w + 8 * step) rs) (entries_put_before o a s f w (entries_of t v r cs) h i)
      ∙ columns_put_before cs rs (put_entries o f w (entries_of t v r cs)) a s (f + step) (w + 8 * step) (omega arith) (omega arith)

  module _ (rs : List (List ℕ)) where
    -- one row's columns and their summaries more
    pub slots_step : (i k f w : ℕ) (o : List ℕ) {o' whole : List ℕ} → i < v → k + length (columns_from t v i (v - i)) ≡ step
        → f + length rs * step ≤ w → 24 + 24 * step ≤ f
        → o' ≡ put_at (put_columns t v step (row_columns t v i) o (f + k) (w + 8 * k) rs) (24 + 24 * k)
        (summaries_of t v rs (row_columns t v i))
        → put_at (put_columns t v step (columns_from t v i (v - i)) o (f + k) (w + 8 * k) rs) (24 + 24 * k)
        (summaries_of t v rs (columns_from t v i (v - i))) ≡ whole
        → {m : ℕ} → m ≡ length (row_columns t v i)
        → put_at (put_columns t v step (columns_from t v (i + 1) (v - (i + 1))) o' (f + (k + m)) (w + 8 * (k + m)) rs) (24 + 24 * (k + m))
        (summaries_of t v rs (columns_from t v (i + 1) (v - (i + 1)))) ≡ whole
    slots_step i k f w o {o'} {whole} h e b c p q {m} em =
        let xs = row_columns t v i in
        let ys = columns_from t v (i + 1) (v - (i + 1)) in
        let all = columns_from t v i (v - i) in
        let put = put_columns t v step xs o (f + k) (w + 8 * k) rs in
        let s = summaries_of t v rs xs in
        let z = summaries_of t v rs ys in
        let ls = length_summaries t v rs xs in
        let l = left_count t v [] i h in
        let more = row_step t v step rs i k f w o {o' = put} h e b refl refl em in
        ap (λ (x : List ℕ). put_at (put_columns t v step ys x (f + (k + m)) (w + 8 * (k + m)) rs) (24 + 24 * (k + m)) z) p
        ∙ ap (λ (x : List ℕ). put_at x (24 + 24 * (k + m)) z)
        (columns_put_before ys rs put (24 + 24 * k) s (f + (k + m)) (w + 8 * (k + m)) (omega (arith, ls, em, l)) (omega (arith, ls, em, l)))
        ∙ put_next (put_columns t v step ys put (f + (k + m)) (w + 8 * (k + m)) rs) (24 + 24 * k) s (24 + 24 * (k + m)) z
        (omega (arith, ls, em))
        ∙ ap (λ (x : List ℕ). put_at x (24 + 24 * k) (s ++ z)) more
        ∙ ap (put_at (put_columns t v step all o (f + k) (w + 8 * k) rs) (24 + 24 * k))
        (sym (summaries_append t v rs xs ys) ∙ ap (summaries_of t v rs) (sym (columns_on t v i h)))
        ∙ q

    pub slots_done : (i a f w : ℕ) {o whole : List ℕ} → v ≤ i
        → put_at (put_columns t v step (columns_from t v i (v - i)) o f w rs) a (summaries_of t v rs (columns_from t v i (v - i))) ≡ whole
        → o
        ≡ whole
    unfolding summaries_of
    slots_done i a f w {o} h q =
        sym (ap (λ (cs : List Column). put_at (put_columns t v step (columns_from t v i (v - i)) o f w rs) a (summaries_of t v rs cs))
        (columns_none t v i h)
        ∙ put_nothing (put_columns t v step (columns_from t v i (v - i)) o f w rs) a
        ∙ columns_nothing t v step (columns_none t v i h) rs o f w)
        ∙ q

    -- the same, told or not
    pub told_step : (told : Bool) (i k f w : ℕ) (o : List ℕ) {o' whole : List ℕ} → i < v → k + length (columns_from t v i (v - i)) ≡ step
        → f + length rs * step ≤ w → 24 + 24 * step ≤ f
        → o' ≡ put_at (put_columns t v step (row_columns t v i) o (f + k) (w + 8 * k) rs) (24 + 24 * k)
        (slots_of told t v rs (row_columns t v i))
        → put_at (put_columns t v step (columns_from t v i (v - i)) o (f + k) (w + 8 * k) rs) (24 + 24 * k)
        (slots_of told t v rs (columns_from t v i (v - i))) ≡ whole
        → {m : ℕ} → m ≡ length (row_columns t v i)
        → put_at (put_columns t v step (columns_from t v (i + 1) (v - (i + 1))) o' (f + (k + m)) (w + 8 * (k + m)) rs) (24 + 24 * (k + m))
        (slots_of told t v rs (columns_from t v (i + 1) (v - (i + 1)))) ≡ whole
    unfolding slots_of
    told_step true i k f w o h e b c p q em = slots_step i k f w o h e b c p q em
    told_step false i k f w o {o'} {whole} h e b c p q {m} em =
        put_nothing (put_columns t v step (columns_from t v (i + 1) (v - (i + 1))) o' (f + (k + m)) (w + 8 * (k + m)) rs)
        (24 + 24 * (k + m))
        ∙ row_step t v step rs i k f w o h e b
        (p ∙ put_nothing (put_columns t v step (row_columns t v i) o (f + k) (w + 8 * k) rs) (24 + 24 * k))
        (sym (put_nothing (put_columns t v step (columns_from t v i (v - i)) o (f + k) (w + 8 * k) rs) (24 + 24 * k)) ∙ q) em

    pub told_done : (told : Bool) (i a f w : ℕ) {o whole : List ℕ} → v ≤ i
        → put_at (put_columns t v step (columns_from t v i (v - i)) o f w rs) a (slots_of told t v rs (columns_from t v i (v - i))) ≡ whole
        → o ≡ whole
    unfolding slots_of
    told_done true i a f w h q = slots_done i a f w h q
    told_done false i a f w {o} h q =
        sym (put_nothing (put_columns t v step (columns_from t v i (v - i)) o f w rs) a
        ∙ columns_nothing t v step (columns_none t v i h) rs o f w)
        ∙ q

-- a column's summary among all
summary_among : (t : List ℤ) (v : ℕ) (rs : List (List ℕ)) (cs : List Column) (k : ℕ) (rest : List ℕ) → k < length cs
    → take 24 (drop (24 * k) (summaries_of t v rs cs ++ rest))
    ≡ summary_bytes (summary_of (present_of (column_entries t v (column_at cs k) rs)))
unfolding summaries_of
summary_among t v rs [] k rest h = absurd (omega arith)
summary_among t v rs (c ∷ cs) zero rest h =
    let s = summary_of (present_of (column_entries t v c rs)) in
    ap (take 24) (append_assoc (summary_bytes s) (summaries_of t v rs cs) rest)
    ∙ take_at (summary_bytes s) (summaries_of t v rs cs ++ rest) 24 (length_summary s)
summary_among t v rs (c ∷ cs) (suc k) rest h =
    let s = summary_of (present_of (column_entries t v c rs)) in
    let b = summary_bytes s in
    let e : 24 * suc k ≡ length b + 24 * k = omega (arith, length_summary s) in
    ap (λ (i : ℕ). take 24 (drop i ((b ++ summaries_of t v rs cs) ++ rest))) e
    ∙ ap (λ (l : List ℕ). take 24 (drop (length b + 24 * k) l)) (append_assoc b (summaries_of t v rs cs) rest)
    ∙ ap (take 24) (drop-append-add b (summaries_of t v rs cs ++ rest) (24 * k))
    ∙ summary_among t v rs cs k rest (omega arith)

-- THE SUMMARY of column k, 24 bytes, where all were put
pub summary_at_lem : (t : List ℤ) (v : ℕ) (rs : List (List ℕ)) (cs : List Column) (x : List ℕ) → 24 + 24 * length cs ≤ length x → (k : ℕ)
    → k < length cs → take 24 (drop (24 + 24 * k) (put_at x 24 (summaries_of t v rs cs)))
    ≡ summary_bytes (summary_of (present_of (column_entries t v (column_at cs k) rs)))
summary_at_lem t v rs cs x room k h =
    let s = summaries_of t v rs cs in
    let o = put_at x 24 s in
    let b = put_back x 24 s (omega (arith, length_summaries t v rs cs, room)) in
    ap (take 24) (sym (drop-drop (24 * k) 24 o)
    ∙ ap (drop (24 * k)) (sym (take-append-drop (length s) (drop 24 o)) ∙ ap (λ (w : List ℕ). w ++ drop (length s) (drop 24 o)) b))
    ∙ summary_among t v rs cs k (drop (length s) (drop 24 o)) h
