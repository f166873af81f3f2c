-- The columns' summaries from bytes that stand in the output: what is put before those bytes changes none of them.
-- Assumes nothing.
use Rattle.std.specs.Prelude.{◌≡◌, Bool, true, false, cond, not, T, eqb, length, get_or, set, take, Float}
use Rattle.std.proofs.Math.Path.{refl, sym, ap}
use Rattle.std.proofs.Common.{◌∙◌, subst, zero-add, add-one, get_or-drop, drop-set-lt}
use mathlib.Core.List.{List, [], ◌∷◌, ◌++◌, append_assoc, append-nil}
use Prim.Native.Nat.{ℕ, zero, suc, ◌+◌, ◌-◌, ◌*◌, ◌≤◌, ◌<◌}
use Rattle.std.proofs.Math.Nat.{add-zero}
use native.Mathlib.Omega.{arith}
use Rattle.std.proofs.Math.ListN.{drop, length-append}
use Rattle.std.proofs.Math.Seq.{drop-drop}
use Rattle.std.specs.Float.{binary64}
use Rattle.std.specs.Float.Ieee.{is_nan, of_bits}
use Rattle.std.specs.Float.Ieee.Bits.{nan_bits_is}
use Rattle.places.specs.rule.Places.{put, run}
use Rattle.little.specs.rule.Bytes.{put_at, little_number}
use Rattle.little.specs.Bytes.{number_at}
use Rattle.little.specs.Runs.{put_next}
use Rattle.summary.specs.declared.Summary.{Summary}
use Rattle.summary.specs.rule.Summary.{nought, none_summed, extend_of, extended_by, summary_of}
use Rattle.summary.specs.Laws.{extend_keeps}
use Rattle.matrix.specs.rule.Bytes.{summary_bytes}
use Rattle.matrix.specs.Bytes.{length_summary}
use Rattle.matrix.specs.Column.{ColumnThere, column_in}
use Rattle.matrix.specs.Ones.{AllThere, AllTold, unit, told_of}

-- k columns side by side, from these places on
unfoldable pub ColumnsThere : List ℕ → ℕ → ℕ → ℕ → ℕ → ℕ → Type 0
ColumnsThere s step f v n zero = Unit {0}
ColumnsThere s step f v n (suc k) = ColumnThere s step f v n × ColumnsThere s step (f + 1) (v + 8) n k

unfoldable pub summaries_in : List ℕ → ℕ → ℕ → ℕ → ℕ → ℕ → List ℕ
summaries_in s step f v n zero = []
summaries_in s step f v n (suc k) = summary_bytes (summary_of (column_in s step f v n)) ++ summaries_in s step (f + 1) (v + 8) n k

-- two outputs of one length that are the same from a place on
pub record Same (a : ℕ) (s s' : List ℕ) : Type 0 where
  pub long : length s ≡ length s'
  pub from : drop a s ≡ drop a s'

-- the summaries of m columns from the j-th on, which have n values each, by their ones
unfoldable pub told_from : ℕ → List ℕ → ℕ → ℕ → List ℕ
told_from n ones j zero = []
told_from n ones j (suc m) = summary_bytes (told_of n (get_or ones j 0)) ++ told_from n ones (suc j) m

pub same_of : {a : ℕ} {s s' : List ℕ} → length s' ≡ length s → drop a s' ≡ drop a s → Same a s s'
same_of l d = record { long = sym l; from = sym d }

-- ---- laws
module _ {a : ℕ} {s s' : List ℕ} (q : Same a s s') where
  byte_same : (f : ℕ) → a ≤ f → get_or s f 0 ≡ get_or s' f 0
  byte_same f h =
      let e : a + (f - a) ≡ f = omega arith in
      ap (λ (i : ℕ). get_or s i 0) (sym e) ∙ sym (get_or-drop a s (f - a) 0) ∙ ap (λ (l : List ℕ). get_or l (f - a) 0) q.from
      ∙ get_or-drop a s' (f - a) 0 ∙ ap (λ (i : ℕ). get_or s' i 0) e

  pub number_same : (v : ℕ) → a ≤ v → number_at 8 v s ≡ number_at 8 v s'
  unfolding number_at
  number_same v h =
      let e : a + (v - a) ≡ v = omega arith in
      ap (λ (l : List ℕ). little_number (take 8 l))
      (ap (λ (i : ℕ). drop i s) (sym e) ∙ sym (drop-drop (v - a) a s) ∙ ap (drop (v - a)) q.from ∙ drop-drop (v - a) a s'
      ∙ ap (λ (i : ℕ). drop i s') e)

  pub column_same : (step n f v : ℕ) → a ≤ f → a ≤ v → column_in s step f v n ≡ column_in s' step f v n
  unfolding column_in
  column_same step zero f v h g = refl
  column_same step (suc n) f v h g = rw (
    byte_same f h,
    number_same v g,
    column_same step n (f + step) (v + 8 * step) (omega arith) (omega arith),
  )

  pub there_same : (step n f v : ℕ) → a ≤ f → a ≤ v → ColumnThere s step f v n → ColumnThere s' step f v n
  unfolding ColumnThere
  there_same step zero f v h g c = tt
  there_same step (suc n) f v h g c = (
    rw q.long at c.0,
    rw q.long at c.1,
    rw (number_same v g) at c.2,
    there_same step n (f + step) (v + 8 * step) (omega arith) (omega arith) c.3,
  )

  pub columns_same : (step n m f v : ℕ) → a ≤ f → a ≤ v → ColumnsThere s step f v n m → ColumnsThere s' step f v n m
  unfolding ColumnsThere
  columns_same step n zero f v h g c = tt
  columns_same step n (suc m) f v h g c = (
    there_same step n f v h g c.0,
    columns_same step n m (f + 1) (v + 8) (omega arith) (omega arith) c.1,
  )

  pub summaries_same : (step n m f v : ℕ) → a ≤ f → a ≤ v → summaries_in s step f v n m ≡ summaries_in s' step f v n m
  unfolding summaries_in
  summaries_same step n zero f v h g = refl
  summaries_same step n (suc m) f v h g = rw (
    column_same step n f v h g,
    summaries_same step n m (f + 1) (v + 8) (omega arith) (omega arith),
  )

there_nth : (s : List ℕ) (step f v n m j : ℕ) → j < m → ColumnsThere s step f v n m → ColumnThere s step (f + j) (v + 8 * j) n
unfolding ColumnsThere
there_nth s step f v n zero j h c = absurd (omega arith)
there_nth s step f v n (suc m) zero h c =
    let x : f + 0 ≡ f = omega arith in
    let y : v + 8 * 0 ≡ v = omega arith in
    rw (x, y) c.0
there_nth s step f v n (suc m) (suc j) h c =
    let x : f + suc j ≡ f + 1 + j = omega arith in
    let y : v + 8 * suc j ≡ v + 8 + 8 * j = omega arith in
    rw (x, y) (there_nth s step (f + 1) (v + 8) n m j (omega arith) c.1)

pub all_there : (s : List ℕ) (step f v n m : ℕ) → 16 ≤ m → ColumnsThere s step f v n m → AllThere s step f v n
all_there s step f v n m h c = record { at = λ j l. there_nth s step f v n m j (omega arith) c }

drop_put : (xs r : List ℕ) (a b : ℕ) → b + length xs ≤ a → drop a (put r (run b (length xs)) xs) ≡ drop a r
drop_put [] r a b h = refl
drop_put (x ∷ xs) r a b h = drop_put xs (set r b x) a (suc b) (omega arith) ∙ drop-set-lt a r b x (omega arith)

pub same_put : (r : List ℕ) (a b : ℕ) (xs : List ℕ) → b + length xs ≤ a → drop a (put_at r b xs) ≡ drop a r
unfolding put_at
same_put r a b xs h = drop_put xs r a b h

-- ---- some columns, and those behind them
module _ (s : List ℕ) (step n : ℕ) where
  pub summaries_then : (r m f v : ℕ) → summaries_in s step f v n (r + m)
      ≡ summaries_in s step f v n r ++ summaries_in s step (f + r) (v + 8 * r) n m
  unfolding summaries_in
  summaries_then zero m f v = rw (zero-add m, add-zero f, add-zero v)
  summaries_then (suc r) m f v =
      let e : suc r + m ≡ suc (r + m) = omega arith in
      let x : f + suc r ≡ f + 1 + r = omega arith in
      let y : v + 8 * suc r ≡ v + 8 + 8 * r = omega arith in
      let b = summary_bytes (summary_of (column_in s step f v n)) in
      rw (e, x, y) (ap (λ (l : List ℕ). b ++ l) (summaries_then r m (f + 1) (v + 8))
      ∙ sym (append_assoc b (summaries_in s step (f + 1) (v + 8) n r) (summaries_in s step (f + 1 + r) (v + 8 + 8 * r) n m)))

  pub length_in : (m f v : ℕ) → length (summaries_in s step f v n m) ≡ 24 * m
  unfolding summaries_in
  length_in zero f v = refl
  length_in (suc m) f v =
      let x = summary_of (column_in s step f v n) in
      omega (
        arith,
        length-append (summary_bytes x) (summaries_in s step (f + 1) (v + 8) n m),
        length_summary x,
        length_in m (f + 1) (v + 8),
      )

  pub columns_then : (r m f v : ℕ) → ColumnsThere s step f v n (r + m) → ColumnsThere s step (f + r) (v + 8 * r) n m
  unfolding ColumnsThere
  columns_then zero m f v c = let w : ColumnsThere s step f v n m = rw (zero-add m) at c in rw (add-zero f, add-zero v) w
  columns_then (suc r) m f v c =
      let e : suc r + m ≡ suc (r + m) = omega arith in
      let x : f + suc r ≡ f + 1 + r = omega arith in
      let y : v + 8 * suc r ≡ v + 8 + 8 * r = omega arith in
      let w = rw e at c in
      rw (x, y) (columns_then r m (f + 1) (v + 8) w.1)

  pub first_there : (m f v : ℕ) → 1 ≤ m → ColumnsThere s step f v n m → ColumnThere s step f v n
  unfolding ColumnsThere
  first_there zero f v h c = absurd (omega arith)
  first_there (suc m) f v h c = c.0

  pub one_in : (f v : ℕ) → summaries_in s step f v n 1 ≡ summary_bytes (summary_of (column_in s step f v n))
  unfolding summaries_in
  one_in f v = append-nil (summary_bytes (summary_of (column_in s step f v n)))

-- r columns more
module _ (s : List ℕ) (step n f v c k r : ℕ) (low : k + r ≤ c) where
  split : c - k ≡ r + (c - (k + r))
  split = omega arith

  flag_on : f + k + r ≡ f + (k + r)
  flag_on = omega arith

  value_on_lem : v + 8 * k + 8 * r ≡ v + 8 * (k + r)
  value_on_lem = omega arith

  pub rest_there : ColumnsThere s step (f + k) (v + 8 * k) n (c - k)
      → ColumnsThere s step (f + (k + r)) (v + 8 * (k + r)) n (c - (k + r))
  rest_there a =
      rw (flag_on, value_on_lem) at (columns_then s step n r (c - (k + r)) (f + k) (v + 8 * k)
      (subst (λ (i : ℕ). ColumnsThere s step (f + k) (v + 8 * k) n i) split a))

  pub rest_put : (at : ℕ) (out out' : List ℕ) → out' ≡ put_at out (at + 24 * k) (summaries_in s step (f + k) (v + 8 * k) n r)
      → {whole : List ℕ}
      → put_at out (at + 24 * k) (summaries_in s step (f + k) (v + 8 * k) n (c - k)) ≡ whole
      → put_at out' (at + 24 * (k + r)) (summaries_in s step (f + (k + r)) (v + 8 * (k + r)) n (c - (k + r))) ≡ whole
  rest_put at out out' e q =
      let m = c - (k + r) in
      let to = at + 24 * (k + r) in
      let a = summaries_in s step (f + k) (v + 8 * k) n r in
      ap (λ (l : List ℕ). put_at l to (summaries_in s step (f + (k + r)) (v + 8 * (k + r)) n m)) e
      ∙ ap (λ (i : ℕ). put_at (put_at out (at + 24 * k) a) to (summaries_in s step i (v + 8 * (k + r)) n m)) (sym flag_on)
      ∙ ap (λ (i : ℕ). put_at (put_at out (at + 24 * k) a) to (summaries_in s step (f + k + r) i n m)) (sym value_on_lem)
      ∙ put_next out (at + 24 * k) a to (summaries_in s step (f + k + r) (v + 8 * k + 8 * r) n m)
      (omega (arith, length_in s step n r (f + k) (v + 8 * k)))
      ∙ ap (put_at out (at + 24 * k))
      (sym (ap (summaries_in s step (f + k) (v + 8 * k) n) split ∙ summaries_then s step n r m (f + k) (v + 8 * k)))
      ∙ q

pub summaries_none : (s : List ℕ) (step f v n c k : ℕ) → c ≤ k → summaries_in s step f v n (c - k) ≡ []
unfolding summaries_in
summaries_none s step f v n c k h = let e : c - k ≡ 0 = omega arith in rw e

-- ---- sixteen columns that were counted
pub told_in : {s : List ℕ} {step flags values records n : ℕ} {ones : List ℕ} {full : Bool}
    → AllTold s step flags values records full n ones → full ≡ true → told_from n ones 0 16 ≡ summaries_in s step flags values records 16
unfolding told_from summaries_in
told_in {s} {step} {flags} {values} {records} {n} {ones} a e =
    go 16 0 (omega arith)
    ∙ ap (λ (x : ℕ). summaries_in s step x (values + 8 * 0) records 16) (add-zero flags)
    ∙ ap (λ (x : ℕ). summaries_in s step flags x records 16) (add-zero values)
  where
    go : (m j : ℕ) → j + m ≡ 16 → told_from n ones j m ≡ summaries_in s step (flags + j) (values + 8 * j) records m
    go zero j h = refl
    go (suc m) j h =
        let x : flags + j + 1 ≡ flags + suc j = omega arith in
        let y : values + 8 * j + 8 ≡ values + 8 * suc j = omega arith in
        rw (x, y, a.at e j (omega arith), go m (suc j) (omega arith))

pub told_next : (n : ℕ) (ones : List ℕ) (j : ℕ) → j < 16
    → told_from n ones j (16 - j) ≡ summary_bytes (told_of n (get_or ones j 0)) ++ told_from n ones (j + 1) (16 - (j + 1))
unfolding told_from
told_next n ones j h = let e : 16 - j ≡ suc (16 - (j + 1)) = omega arith in rw (e, add-one j)

pub told_over : (n : ℕ) (ones : List ℕ) (j : ℕ) → 16 ≤ j → told_from n ones j (16 - j) ≡ []
unfolding told_from
told_over n ones j h = let e : 16 - j ≡ 0 = omega arith in rw e

-- ---- no value is a NaN
abbrev Real : Float → Type 0
Real x = T (not (is_nan x))

abbrev EachReal : List Float → Type 0
EachReal [] = Unit {0}
EachReal (x ∷ xs) = Real x × EachReal xs

column_real : (s : List ℕ) (step n f v : ℕ) → ColumnThere s step f v n → EachReal (column_in s step f v n)
unfolding ColumnThere column_in
column_real s step zero f v c = tt
column_real s step (suc n) f v c =
    go (eqb (get_or s f 0) 1) (rw (nan_bits_is binary64 (number_at 8 v s)) at c.2) (column_real s step n (f + step) (v + 8 * step) c.3)
  where
    go : (b : Bool) → Real (of_bits binary64 (number_at 8 v s)) → EachReal (column_in s step (f + step) (v + 8 * step) n)
        → EachReal (cond b (of_bits binary64 (number_at 8 v s) ∷ column_in s step (f + step) (v + 8 * step) n)
        (column_in s step (f + step) (v + 8 * step) n))
    go true x rest = (x, rest)
    go false x rest = rest

extended_real : (xs : List Float) (s : Summary) → Real s.least → Real s.most → EachReal xs
    → Real (extended_by s xs).least × Real (extended_by s xs).most
unfolding extended_by
extended_real [] s a b e = (a, b)
extended_real (x ∷ xs) s a b e =
    let k = extend_keeps Real s x a b e.0 in
    extended_real xs (extend_of s x) k.0 k.1 e.1

pub more_plain : (s : List ℕ) (step f v n : ℕ) (b : Summary) → ColumnThere s step f v n → Real b.least → Real b.most
    → Real (extended_by b (column_in s step f v n)).least × Real (extended_by b (column_in s step f v n)).most
more_plain s step f v n b c x y = extended_real (column_in s step f v n) b x y (column_real s step n f v c)

pub summary_plain : (s : List ℕ) (step f v n : ℕ) → ColumnThere s step f v n
    → Real (summary_of (column_in s step f v n)).least × Real (summary_of (column_in s step f v n)).most
unfolding summary_of none_summed is_nan
summary_plain s step f v n c = more_plain s step f v n none_summed c tt tt

pub told_plain : (n o : ℕ) → Real (told_of n o).least × Real (told_of n o).most
unfolding told_of none_summed is_nan of_bits
told_plain n o = go (eqb n 0) (eqb o n) (eqb o 0)
  where
    told : Bool → Bool → Bool → Summary
    told a b c = cond a none_summed (record { count = n; least = cond b unit nought; most = cond c nought unit })

    go : (a b c : Bool) → Real (told a b c).least × Real (told a b c).most
    go true b c = (tt, tt)
    go false true true = (tt, tt)
    go false true false = (tt, tt)
    go false false true = (tt, tt)
    go false false false = (tt, tt)

pub put_nothing : (r : List ℕ) (a : ℕ) → put_at r a [] ≡ r
unfolding put_at
put_nothing r a = refl
