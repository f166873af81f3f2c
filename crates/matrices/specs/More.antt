-- The summaries of some records, read from where they stand and extended by the records behind them, are those of all.
-- Assumes nothing.
use Rattle.std.specs.Prelude.{◌≡◌, refl, not, T, ℤ, take, drop, Float}
use Rattle.std.proofs.Common.{sym, ◌∙◌, add-zero, drop_of_length-le, length-append, drop-cons, drop-drop}
use Rattle.std.proofs.Math.Path.{ap, subst}
use mathlib.Core.List.{List, [], ◌∷◌, ◌++◌, append_assoc}
use Prim.Native.Nat.{ℕ, zero, suc, ◌+◌, ◌-◌, ◌*◌, ◌≤◌, ◌<◌}
use Rattle.std.proofs.Math.Numerals.{add-one}
use native.Mathlib.Omega.{arith}
use Rattle.std.proofs.Math.ListN.{length}
use Rattle.std.specs.Float.{binary64}
use Rattle.std.specs.Float.Ieee.{is_nan, nan_bits, fits}
use Rattle.std.specs.Float.Ieee.Bits.{nan_bits_is}
use Rattle.places.specs.rule.Places.{put, run}
use Rattle.places.specs.Laws.{length_put, apart, pick_run}
use Rattle.layout.specs.declared.Header.{Header}
use Rattle.files.specs.rule.Tested.{Tested}
use Rattle.quotient.specs.rule.Value.{value_of}
use Rattle.little.specs.rule.Bytes.{put_at, little_number}
use Rattle.little.specs.Bytes.{number_at}
use Rattle.little.specs.Runs.{put_next, apart_runs, length_put_at}
use Rattle.summary.specs.declared.Summary.{Summary}
use Rattle.summary.specs.rule.Summary.{none_summed, extend_of, extended_by, summary_of}
use Rattle.summary.specs.Laws.{extend_keeps, count_on}
use Rattle.matrix.specs.declared.Entry.{Entry}
use Rattle.matrix.specs.declared.Entry.TheVariants.{Absent, Scaled}
use Rattle.matrix.specs.rule.Entry.{float_of, flags_of, value_bytes, present_of}
use Rattle.matrix.specs.rule.Bytes.{summary_bytes}
use Rattle.matrix.specs.Bytes.{length_summary}
use Rattle.matrix.specs.Back.{summary_at, summary_back}
use Rattle.matrix.specs.Put.{put_entries}
use Rattle.matrix.specs.Entry.{EntryGood, entry_real, entry_fits, entries_none, entries_then}
use Rattle.matrix.specs.Column.{ColumnThere, column_in}
use Rattle.matrix.specs.Over.{same_over}
use Rattle.matrix.specs.Stride.{AllGood, good_at}
use Rattle.columns.specs.Columns as columns
use Rattle.columns.specs.rule.Columns.{Column, of_row, columns_from, entry_of, entries_of}
use Rattle.matrices.specs.rule.Matrix.{matrix_entries, column_entries, summaries_of}
use Rattle.matrices.specs.Records.{length_all}
use Rattle.matrices.specs.Entries.{column_at, record_at, entry_at}
use Rattle.matrices.specs.Good.{record_good}
use Rattle.matrices.specs.Parts.{records_in, EachSound}
use Rattle.matrices.specs.Summaries.{Same, number_same}
use Rattle.matrices.specs.Blocks.{put_each, EachRoom, each_columns, columns_whole, cells_below}
use Rattle.matrices.specs.Stand.{length_summaries, entries_put_before, summary_at_lem, each_there, each_column, column_values}

-- every column stands
abbrev pub EachThere : List ℕ → ℕ → ℕ → ℕ → ℕ → Type 0
EachThere s step f v n = (j : ℕ) → j < step → ColumnThere s step (f + j) (v + 8 * j) n

-- m summaries whose floats are no NaN, and whose counts leave room for n more
pub record ReadyAt (s : List ℕ) (n a : ℕ) : Type 0 where
  pub least : T (not (nan_bits binary64 (number_at 8 (a + 8) s)))
  pub most : T (not (nan_bits binary64 (number_at 8 (a + 16) s)))
  pub low : number_at 8 a s + n ≤ 18446744073709551615

abbrev pub MoreReady : List ℕ → ℕ → ℕ → Type 0
MoreReady s m n = (j : ℕ) → j < m → ReadyAt s n (24 + 24 * j)

-- the summaries of m columns from the k-th on, each begun with the one that stands
unfoldable pub extended_in : List ℕ → ℕ → ℕ → ℕ → ℕ → ℕ → ℕ → List ℕ
extended_in s step f v n k zero = []
extended_in s step f v n k (suc m) =
    summary_bytes (extended_by (summary_at s (24 + 24 * k)) (column_in s step (f + k) (v + 8 * k) n)) ++ extended_in s step f v n (k + 1) m

-- the summary of each column of some records stands
abbrev pub Summed : List ℕ → List ℤ → ℕ → List Column → List (List ℕ) → Type 0
Summed s t v cs rs =
    (j : ℕ) → j < length cs → summary_at s (24 + 24 * j) ≡ summary_of (present_of (column_entries t v (column_at cs j) rs))

-- ---- one column more
pub ready_same : {a n : ℕ} {s s' : List ℕ} → Same a s s' → (b : ℕ) → a ≤ b → ReadyAt s n b → ReadyAt s' n b
ready_same q b h r = record {
  least = rw (number_same q (b + 8) (omega arith)) at r.least;
  most = rw (number_same q (b + 16) (omega arith)) at r.most;
  low = rw (number_same q b h) at r.low;
}

pub summary_same : {a : ℕ} {s s' : List ℕ} → Same a s s' → (b : ℕ) → a ≤ b → summary_at s b ≡ summary_at s' b
summary_same q b h = rw (number_same q b h, number_same q (b + 8) (omega arith), number_same q (b + 16) (omega arith))

pub extended_next : (s : List ℕ) (step f v n k c : ℕ) → k < c → extended_in s step f v n k (c - k)
    ≡ summary_bytes (extended_by (summary_at s (24 + 24 * k)) (column_in s step (f + k) (v + 8 * k) n))
    ++ extended_in s step f v n (k + 1) (c - (k + 1))
unfolding extended_in
extended_next s step f v n k c h = let e : c - k ≡ suc (c - (k + 1)) = omega arith in rw e

pub extended_over : (s : List ℕ) (step f v n k c : ℕ) → c ≤ k → extended_in s step f v n k (c - k) ≡ []
unfolding extended_in
extended_over s step f v n k c h = let e : c - k ≡ 0 = omega arith in rw e

pub extended_step : (s : List ℕ) (step f v n k c : ℕ) → k < c → (o : List ℕ) (x : Summary) {o' whole : List ℕ}
    → o' ≡ put_at o (24 + 24 * k) (summary_bytes x)
    → x ≡ extended_by (summary_at s (24 + 24 * k)) (column_in s step (f + k) (v + 8 * k) n)
    → put_at o (24 + 24 * k) (extended_in s step f v n k (c - k)) ≡ whole
    → put_at o' (24 + 24 * (k + 1)) (extended_in s step f v n (k + 1) (c - (k + 1))) ≡ whole
extended_step s step f v n k c h o x {o'} {whole} p e q =
    let rest = extended_in s step f v n (k + 1) (c - (k + 1)) in
    ap (λ (l : List ℕ). put_at l (24 + 24 * (k + 1)) rest) p
    ∙ put_next o (24 + 24 * k) (summary_bytes x) (24 + 24 * (k + 1)) rest (omega (arith, length_summary x))
    ∙ ap (λ (y : Summary). put_at o (24 + 24 * k) (summary_bytes y ++ rest)) e
    ∙ ap (put_at o (24 + 24 * k)) (sym (extended_next s step f v n k c h))
    ∙ q

-- ---- extended by more values
extended_append : (s : Summary) (xs ys : List Float) → extended_by (extended_by s xs) ys ≡ extended_by s (xs ++ ys)
unfolding extended_by
extended_append s [] ys = refl
extended_append s (x ∷ xs) ys = extended_append (extend_of s x) xs ys

present_one : (e : Entry) (es fs gs : List Entry) → present_of es ≡ present_of fs ++ present_of gs
    → present_of (e ∷ es) ≡ present_of (e ∷ fs) ++ present_of gs
unfolding present_of
present_one Absent es fs gs h = h
present_one (Scaled z p) es fs gs h = ap (λ (l : List Float). value_of z p ∷ l) h

present_append : (t : List ℤ) (v : ℕ) (c : Column) (xs ys : List (List ℕ))
    → present_of (column_entries t v c (xs ++ ys)) ≡ present_of (column_entries t v c xs) ++ present_of (column_entries t v c ys)
unfolding column_entries present_of
present_append t v c [] ys = refl
present_append t v c (x ∷ xs) ys =
    present_one (entry_of t v x c) (column_entries t v c (xs ++ ys)) (column_entries t v c xs) (column_entries t v c ys)
    (present_append t v c xs ys)

-- THE SUMMARIES of both
module _ (t : List ℤ) (v : ℕ) (cs : List Column) (xs ys : List (List ℕ)) (s : List ℕ) (f w n : ℕ) (begun : Summed s t v cs xs)
    (stand : (j : ℕ) → j < length cs → column_in s (length cs) (f + j) (w + 8 * j) n ≡ present_of (column_entries t v (column_at cs j) ys))
  where
    both : (j : ℕ) → j < length cs → extended_by (summary_at s (24 + 24 * j)) (column_in s (length cs) (f + j) (w + 8 * j) n)
        ≡ summary_of (present_of (column_entries t v (column_at cs j) (xs ++ ys)))
    unfolding summary_of
    both j l =
        let c = column_at cs j in
        ap (λ (b : Summary). extended_by b (column_in s (length cs) (f + j) (w + 8 * j) n)) (begun j l)
        ∙ ap (extended_by (summary_of (present_of (column_entries t v c xs)))) (stand j l)
        ∙ extended_append none_summed (present_of (column_entries t v c xs)) (present_of (column_entries t v c ys))
        ∙ ap (extended_by none_summed) (sym (present_append t v c xs ys))

    from_k : (m k : ℕ) → m + k ≡ length cs → extended_in s (length cs) f w n k m ≡ summaries_of t v (xs ++ ys) (drop k cs)
    unfolding extended_in summaries_of
    from_k zero k e = let h : length cs ≤ k = omega arith in rw (drop_of_length-le cs h)
    from_k (suc m) k e =
        let h : k < length cs = omega arith in
        rw (drop-cons cs k (of_row 0) h, both k h, add-one k, from_k m (suc k) (omega arith))

    pub extended_all : extended_in s (length cs) f w n 0 (length cs) ≡ summaries_of t v (xs ++ ys) cs
    extended_all = from_k (length cs) 0 (omega arith)

-- ---- the summary of some entries is written and read exactly
module _ (P : Float → Type 0) (each : (e : Entry) → EntryGood e → P (float_of e)) where
  entries_keep : (es : List Entry) (s : Summary) → AllGood es → P s.least → P s.most
      → P (extended_by s (present_of es)).least × P (extended_by s (present_of es)).most
  unfolding AllGood present_of extended_by float_of
  entries_keep [] s g a b = (a, b)
  entries_keep (Absent ∷ es) s g a b = entries_keep es s g.1 a b
  entries_keep (Scaled z p ∷ es) s g a b =
      let k = extend_keeps P s (value_of z p) a b (each (Scaled z p) g.0) in
      entries_keep es (extend_of s (value_of z p)) g.1 k.0 k.1

count_all : (xs : List Float) (s : Summary) → (extended_by s xs).count ≡ s.count + length xs
unfolding extended_by
count_all [] s = sym (add-zero s.count)
count_all (x ∷ xs) s = count_all xs (extend_of s x) ∙ omega (arith, count_on s x)

present_few : (es : List Entry) → length (present_of es) ≤ length es
unfolding present_of
present_few [] = omega arith
present_few (Absent ∷ es) = omega (arith, present_few es)
present_few (Scaled z p ∷ es) = omega (arith, present_few es)

length_column : (t : List ℤ) (v : ℕ) (c : Column) (rs : List (List ℕ)) → length (column_entries t v c rs) ≡ length rs
unfolding column_entries
length_column t v c [] = refl
length_column t v c (r ∷ rs) = ap suc (length_column t v c rs)

-- a summary that is read back as it was put
pub record Plain (x : Summary) (n : ℕ) : Type 0 where
  pub low : x.count ≤ n
  pub least_real : T (not (is_nan x.least))
  pub most_real : T (not (is_nan x.most))
  pub least_fits : T (fits binary64 x.least)
  pub most_fits : T (fits binary64 x.most)

entries_plain : (es : List Entry) → AllGood es → Plain (summary_of (present_of es)) (length es)
unfolding summary_of none_summed is_nan fits
entries_plain es g =
    let r = entries_keep (λ x. T (not (is_nan x))) entry_real es none_summed g tt tt in
    let f = entries_keep (λ x. T (fits binary64 x)) (λ e k. entry_fits e) es none_summed g tt tt in record {
      low = omega (arith, count_all (present_of es) none_summed, present_few es);
      least_real = r.0;
      most_real = r.1;
      least_fits = f.0;
      most_fits = f.1;
    }

module _ {t : List ℤ} {h : Header} (g : Tested t h) where
  abbrev all : List Column
  all = columns_from t h.rows 0 h.rows

  column_good : (rs : List (List ℕ)) → EachSound t h rs → (j : ℕ) → j < length all
      → AllGood (column_entries t h.rows (column_at all j) rs)
  unfolding AllGood column_entries
  column_good [] s j l = tt
  column_good (r ∷ rs) s j l = (
    subst EntryGood (entry_at t h.rows all r all j l)
        (good_at (entries_of t h.rows r all) j (record_good g r (s 0 (omega arith)).0 h.rows 0 (omega arith))),
    column_good rs (λ k i. s (suc k) (omega arith)) j l,
  )

  pub column_plain : (rs : List (List ℕ)) → EachSound t h rs → (j : ℕ) → j < length all
      → Plain (summary_of (present_of (column_entries t h.rows (column_at all j) rs))) (length rs)
  column_plain rs s j l =
      subst (Plain (summary_of (present_of (column_entries t h.rows (column_at all j) rs)))) (length_column t h.rows (column_at all j) rs)
      (entries_plain (column_entries t h.rows (column_at all j) rs) (column_good rs s j l))

  -- where they stand, they can be extended
  pub summed_ready : {s : List ℕ} (rs : List (List ℕ)) → EachSound t h rs → Summed s t h.rows all rs → (n : ℕ)
      → length rs + n ≤ 18446744073709551615 → MoreReady s (length all) n
  summed_ready {s} rs e q n low j l =
      let p = column_plain rs e j l in
      let a = 24 + 24 * j in record {
        least = rw (nan_bits_is binary64 (number_at 8 (a + 8) s)) (rw (← ap (λ (x : Summary). x.least) (q j l)) at p.least_real);
        most = rw (nan_bits_is binary64 (number_at 8 (a + 16) s)) (rw (← ap (λ (x : Summary). x.most) (q j l)) at p.most_real);
        low = omega (arith, p.low, low, ap (λ (x : Summary). x.count) (q j l));
      }

  -- THEY STAND where they were put
  pub summed_put : (x : List ℕ) (rs : List (List ℕ)) → EachSound t h rs → 24 + 24 * length all ≤ length x
      → length rs ≤ 16777216 → {s : List ℕ} → s ≡ put_at x 24 (summaries_of t h.rows rs all) → Summed s t h.rows all rs
  summed_put x rs e room few {s} is j l =
      let p = column_plain rs e j l in
      summary_back s (24 + 24 * j) (summary_of (present_of (column_entries t h.rows (column_at all j) rs)))
      (ap (λ (y : List ℕ). take 24 (drop (24 + 24 * j) y)) is ∙ summary_at_lem t h.rows rs all x room j l)
      (omega (arith, p.low, few)) p.least_fits p.most_fits

-- ---- entries put behind the summaries
number_kept : (r : List ℕ) (a b : ℕ) (xs : List ℕ) → a + 8 ≤ b → a + 8 ≤ length r → number_at 8 a (put_at r b xs) ≡ number_at 8 a r
unfolding number_at put_at
number_kept r a b xs h l =
    ap little_number (sym (pick_run (put r (run b (length xs)) xs) a 8 (rw (length_put r (run b (length xs)) xs) l))
    ∙ apart r (run b (length xs)) xs (run a 8) (apart_runs a 8 b (length xs) h) ∙ pick_run r a 8 l)

number_entries : (r : List ℕ) (a f w : ℕ) (es : List Entry) → a + 8 ≤ f → a + 8 ≤ w → a + 8 ≤ length r
    → number_at 8 a (put_entries r f w es) ≡ number_at 8 a r
number_entries r a f w es h i l =
    number_kept (put_at r f (flags_of es)) a w (value_bytes es) i (rw (length_put_at r f (flags_of es)) l)
    ∙ number_kept r a f (flags_of es) h l

pub summed_kept : (t : List ℤ) (v : ℕ) (cs : List Column) (rs : List (List ℕ)) (r : List ℕ) (f w : ℕ) (es : List Entry)
    → 24 + 24 * length cs ≤ f → f ≤ w → 24 + 24 * length cs ≤ length r → {s : List ℕ} → s ≡ put_entries r f w es → Summed r t v cs rs
    → Summed s t v cs rs
summed_kept t v cs rs r f w es h i k {s} is q j l =
    let a = 24 + 24 * j in
    rw is (rw (
      number_entries r a f w es (omega arith) (omega arith) (omega arith),
      number_entries r (a + 8) f w es (omega arith) (omega arith) (omega arith),
      number_entries r (a + 16) f w es (omega arith) (omega arith) (omega arith),
    ) (q j l))

-- ---- a block more
matrix_append : (t : List ℤ) (v : ℕ) (cs : List Column) (xs ys : List (List ℕ))
    → matrix_entries t v cs (xs ++ ys) ≡ matrix_entries t v cs xs ++ matrix_entries t v cs ys
unfolding matrix_entries
matrix_append t v cs [] ys = refl
matrix_append t v cs (x ∷ xs) ys =
    ap (λ (l : List Entry). entries_of t v x cs ++ l) (matrix_append t v cs xs ys)
    ∙ sym (append_assoc (entries_of t v x cs) (matrix_entries t v cs xs) (matrix_entries t v cs ys))

-- what comes behind, and the summaries of all, put over a block that was put
pub block_step : (t : List ℤ) (v : ℕ) (cs : List Column) (ys zs all some rs : List (List ℕ)) → all ≡ ys ++ zs → (o : List ℕ) (f w m c : ℕ)
    → m ≡ length ys → c ≡ length cs → 24 + 24 * c ≤ f → f + length all * c ≤ w → {o' : List ℕ}
    → o' ≡ put_at (put_entries o f w (matrix_entries t v cs ys)) 24 (summaries_of t v some cs)
    → put_at (put_entries o' (f + m * c) (w + 8 * (m * c)) (matrix_entries t v cs zs)) 24 (summaries_of t v rs cs)
    ≡ put_at (put_entries o f w (matrix_entries t v cs all)) 24 (summaries_of t v rs cs)
block_step t v cs ys zs all some rs both o f w m c em ec h i {o'} q =
    let ey = matrix_entries t v cs ys in
    let ez = matrix_entries t v cs zs in
    let s1 = summaries_of t v some cs in
    let s2 = summaries_of t v rs cs in
    let l1 = length_summaries t v some cs in
    let l2 = length_summaries t v rs cs in
    let k : m * c ≡ length ey = rw (em, ec) (sym (length_all t v cs ys)) in
    let all_long : length all * c ≡ length ey + length ez =
    rw ec (sym (length_all t v cs all) ∙ ap (λ (z : List (List ℕ)). length (matrix_entries t v cs z)) both
    ∙ ap (λ (z : List Entry). length z) (matrix_append t v cs ys zs) ∙ length-append ey ez) in
    ap (λ (z : List ℕ). put_at (put_entries z (f + m * c) (w + 8 * (m * c)) ez) 24 s2) q
    ∙ ap (λ (z : List ℕ). put_at z 24 s2) (entries_put_before (put_entries o f w ey) 24 s1 (f + m * c) (w + 8 * (m * c)) ez
    (omega (arith, l1, ec, h)) (omega (arith, l1, ec, h, i)))
    ∙ same_over (put_entries (put_entries o f w ey) (f + m * c) (w + 8 * (m * c)) ez) 24 s1 s2 (l2 ∙ sym l1)
    ∙ ap (λ (x : ℕ). put_at (put_entries (put_entries o f w ey) (f + x) (w + 8 * x) ez) 24 s2) k
    ∙ ap (λ (z : List ℕ). put_at z 24 s2) (entries_then o f w ey ez (omega (arith, all_long, i)))
    ∙ ap (λ (z : List Entry). put_at (put_entries o f w z) 24 s2) (sym (matrix_append t v cs ys zs) ∙ ap (matrix_entries t v cs) (sym both))

-- the summaries that stand, put once more
pub put_again : (t : List ℤ) (v : ℕ) (cs : List Column) (rs : List (List ℕ)) (x : List ℕ) {o : List ℕ}
    → o ≡ put_at x 24 (summaries_of t v rs cs) → put_at o 24 (summaries_of t v rs cs) ≡ o
put_again t v cs rs x e =
    let s = summaries_of t v rs cs in
    ap (λ (z : List ℕ). put_at z 24 s) e ∙ same_over x 24 s s refl ∙ sym e

-- no record is left
pub blocks_over : (t : List ℤ) (v : ℕ) (cs : List Column) (d : List ℕ) (first step r n : ℕ) → n ≡ r → (f w : ℕ) {o whole : List ℕ}
    → put_at o 24 (summaries_of t v (records_in d first step 0 n) cs) ≡ o
    → put_at (put_entries o f w (matrix_entries t v cs (records_in d first step (n * step) (r - n)))) 24
    (summaries_of t v (records_in d first step 0 r) cs) ≡ whole
    → o ≡ whole
unfolding records_in matrix_entries
blocks_over t v cs d first step r n e f w {o} {whole} p q =
    let z : r - n ≡ 0 = omega arith in
    let s = summaries_of t v (records_in d first step 0 r) cs in
    sym p
    ∙ ap (λ (k : ℕ). put_at o 24 (summaries_of t v (records_in d first step 0 k) cs)) e
    ∙ ap (λ (x : List ℕ). put_at x 24 s) (sym (entries_none o f w))
    ∙ ap (λ (k : ℕ). put_at (put_entries o f w (matrix_entries t v cs (records_in d first step (n * step) k))) 24 s) (sym z)
    ∙ q

pub drop_on : (a : ℕ) (s s' : List ℕ) → drop a s ≡ drop a s' → drop (a + 24) s ≡ drop (a + 24) s'
drop_on a s s' e = sym (drop-drop 24 a s) ∙ ap (drop 24) e ∙ drop-drop 24 a s'

-- ---- the columns of a block stand
module _ {t : List ℤ} {h : Header} (g : Tested t h) (rs : List (List ℕ)) (sound : EachSound t h rs) (o : List ℕ) (f w n c : ℕ)
    (en : n ≡ length rs) (ec : c ≡ length (columns_from t h.rows 0 h.rows)) (low : 24 + 24 * c ≤ f) (apart : f + n * c ≤ w)
    (inside : w + 8 * (n * c) ≤ length o)
    {s : List ℕ} (is : s ≡ put_entries o f w (matrix_entries t h.rows (columns_from t h.rows 0 h.rows) rs)) where
  abbrev cs : List Column
  cs = columns_from t h.rows 0 h.rows

  abbrev row : List ℕ → List Entry
  row r = entries_of t h.rows r cs

  many : n * c ≡ length rs * c
  many = ap (λ (x : ℕ). x * c) en

  long : (r : List ℕ) → length (row r) ≡ c
  long r = columns.length_entries t h.rows r cs ∙ sym ec

  as_each : s ≡ put_each row c o f w rs
  as_each =
      is ∙ sym (columns_whole t h.rows c cs rs o f w (sym ec) (omega (arith, apart, many)))
      ∙ sym (each_columns t h.rows c cs row (λ r. refl) rs o f w)

  room : EachRoom f w (length o) c c (length rs)
  room k l =
      let m = cells_below k (length rs) c l in
      record { behind = omega (arith, m, apart, many); inside = omega (arith, m, inside, many) }

  pub block_there : EachThere s c f w n
  block_there j l =
      subst (λ (x : List ℕ). ColumnThere x c (f + j) (w + 8 * j) n) (sym as_each)
      (subst (λ (k : ℕ). ColumnThere (put_each row c o f w rs) c (f + j) (w + 8 * j) k) (sym en)
      (each_there row c c long (omega arith) rs o f w j l (omega (arith, apart, many)) room
      (λ k i. record_good g (record_at rs k) (sound k i).0 h.rows 0 (omega arith))))

  block_column : (j : ℕ) → j < length cs → column_in s (length cs) (f + j) (w + 8 * j) n
      ≡ present_of (column_entries t h.rows (column_at cs j) rs)
  block_column j l =
      ap (λ (x : List ℕ). column_in x (length cs) (f + j) (w + 8 * j) n) as_each
      ∙ ap (λ (k : ℕ). column_in (put_each row c o f w rs) k (f + j) (w + 8 * j) n) (sym ec)
      ∙ ap (λ (k : ℕ). column_in (put_each row c o f w rs) c (f + j) (w + 8 * j) k) en
      ∙ each_column row c c long (omega arith) rs o f w j (omega (arith, l, ec)) (omega (arith, apart, many)) room
      ∙ ap present_of (column_values t h.rows cs row (λ r. refl) rs j l)

  module _ (xs : List (List ℕ)) (begun : Summed o t h.rows cs xs) where
    still : Summed s t h.rows cs xs
    still = summed_kept t h.rows cs xs o f w (matrix_entries t h.rows cs rs) (omega (arith, low, ec)) (omega (arith, apart))
        (omega (arith, low, ec, apart, inside)) is begun

    pub block_ready : EachSound t h xs → length xs + n ≤ 18446744073709551615 → MoreReady s c n
    block_ready e few j l = summed_ready g xs e still n few j (omega (arith, l, ec))

    -- THE SUMMARIES of all so far
    pub block_done : (all : List (List ℕ)) → all ≡ xs ++ rs → {o' : List ℕ} → o' ≡ put_at s 24 (extended_in s c f w n 0 c)
        → o' ≡ put_at (put_entries o f w (matrix_entries t h.rows cs rs)) 24 (summaries_of t h.rows all cs)
    block_done all both e =
        e
        ∙ ap (λ (k : ℕ). put_at s 24 (extended_in s k f w n 0 k)) ec
        ∙ ap (put_at s 24) (extended_all t h.rows cs xs rs s f w n still block_column
        ∙ ap (λ (z : List (List ℕ)). summaries_of t h.rows z cs) (sym both))
        ∙ ap (λ (x : List ℕ). put_at x 24 (summaries_of t h.rows all cs)) is
