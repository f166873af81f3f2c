-- THE SUMMARIES OF A SOUND FILE: of each column the count present, a smallest and a largest present value; zeros where there is none.
-- Assumes nothing.
use Rattle.std.proofs.Math.Path.{◌≡◌, refl, sym, subst}
use Rattle.std.proofs.Common.{ap, ◌∙◌, inl, inr, arith}
use Rattle.std.specs.Prelude.{ℕ, suc, ◌+◌, ◌*◌, ◌<◌, ℤ, length, get_or, Float}
use mathlib.Core.List.{List, [], ◌∷◌, ◌++◌}
use Rattle.cuts.specs.rule.Records.{records_of}
use Rattle.sound.specs.rule.Rows.{rows_of}
use Rattle.layout.specs.rule.Layout.{header_of}
use Rattle.files.specs.rule.File.{sound_with, file_verdict}
use Rattle.files.specs.rule.Tested.{Tested}
use Rattle.quotient.specs.rule.Value.{value_of}
use Rattle.quotient.specs.Limits as limits
use Rattle.summary.specs.declared.Summary.{Summary}
use Rattle.summary.specs.rule.Summary.{summary_of}
use Rattle.summary.specs.Laws.{values_of, Among, Each, Says, summary_says, summary_none}
use Rattle.matrix.specs.declared.Entry.{Entry}
use Rattle.matrix.specs.declared.Entry.TheVariants.{Absent, Scaled}
use Rattle.matrix.specs.rule.Entry.{present_of}
use Rattle.matrix.specs.Entry.{EntryGood}
use Rattle.matrix.specs.Stride.{AllGood, good_at}
use Rattle.columns.specs.rule.Columns.{Column, of_row, entry_of, entries_of}
use Rattle.matrices.specs.rule.Matrix.{ended_of, table_columns, matrix_entries, column_entries}
use Rattle.matrices.specs.Records.{file_sound}
use Rattle.matrices.specs.Entries.{column_at, all_at_lem}
use Rattle.matrices.specs.Good.{all_good}
use Rattle.matrix_laws.specs.Numbers.{numbers_of, power_of}
use Rattle.matrix_laws.specs.rule.Summary.{Present, Extremes, Summarises}
use Rattle.matrix_laws.specs.Summaries.{Over, entry_over, column_values}

-- ---- the values of numbers over one power
value_present : (p : ℕ) (n : ℤ) (ns : List ℤ) → Among n ns → Present (value_of n p) (values_of p ns)
unfolding Present values_of
value_present p n (m ∷ ns) (inl e) = inl (ap (λ (z : ℤ). value_of z p) e)
value_present p n (m ∷ ns) (inr w) = inr (value_present p n ns w)
value_present p n [] x' = elim x' [ ]

-- a present value is that of one of the numbers
record Number (p : ℕ) (ns : List ℤ) (x : Float) : Type 0 where
  number : ℤ
  among : Among number ns
  value : x ≡ value_of number p

present_number : (p : ℕ) (ns : List ℤ) (x : Float) → Present x (values_of p ns) → Number p ns x
unfolding Present values_of
present_number p [] x w = absurd w
present_number p (n ∷ ns) x (inl e) = record { number = n; among = inl refl; value = e }
present_number p (n ∷ ns) x (inr w) =
    let i = present_number p ns x w in record { number = i.number; among = inr i.among; value = i.value }

length_values : (p : ℕ) (ns : List ℤ) → length (values_of p ns) ≡ length ns
unfolding values_of
length_values p [] = refl
length_values p (n ∷ ns) = ap suc (length_values p ns)

extremes : (p : ℕ) (ns : List ℤ) (s : Summary) → Says p ns s → Extremes (values_of p ns) s
extremes p ns s q = record {
  smallest = subst (λ (x : Float). Present x (values_of p ns)) (sym q.smallest.value)
      (value_present p q.smallest.number ns q.smallest.among);
  none_below = λ x w. let i = present_number p ns x w in rw i.value (q.smallest.none_below i.number i.among);
  largest = subst (λ (x : Float). Present x (values_of p ns)) (sym q.largest.value)
      (value_present p q.largest.number ns q.largest.among);
  none_above = λ x w. let i = present_number p ns x w in rw i.value (q.largest.none_above i.number i.among);
}

-- ---- a column of good entries
good_tail : (xs ys : List Entry) → AllGood (xs ++ ys) → AllGood ys
unfolding AllGood
good_tail [] ys g = g
good_tail (x ∷ xs) ys g = good_tail xs ys g.1

column_good : (t : List ℤ) (v : ℕ) (cs : List Column) (rs : List (List ℕ)) (k : ℕ) → k < length cs → AllGood (matrix_entries t v cs rs)
    → AllGood (column_entries t v (column_at cs k) rs)
unfolding AllGood column_entries matrix_entries
column_good t v cs [] k h g = tt
column_good t v cs (r ∷ rs) k h g = (
  subst EntryGood (all_at_lem t v cs (r ∷ rs) 0 k (omega arith) h) (good_at (matrix_entries t v cs (r ∷ rs)) (0 * length cs + k) g),
  column_good t v cs rs k h (good_tail (entries_of t v r cs) (matrix_entries t v cs rs) g),
)

each_scaled : (es : List Entry) → AllGood es → Each (numbers_of es)
unfolding AllGood EntryGood numbers_of
each_scaled [] g = tt
each_scaled (Absent ∷ es) g = each_scaled es g.1
each_scaled (Scaled z p ∷ es) g = (g.0.0, each_scaled es g.1)

module _ (t : List ℤ) (v : ℕ) (c : Column) where
  -- a column with a number has a power of ten that is converted exactly
  column_power : (rs : List (List ℕ)) → AllGood (column_entries t v c rs) → (n : ℤ) (ns : List ℤ) → numbers_of (column_entries t v c rs) ≡ n
      ∷ ns
      → limits.Power (power_of t c)
  unfolding AllGood EntryGood Over column_entries numbers_of
  column_power [] g n ns e = let z : ◌≡◌ {A = ℕ} 0 1 = cc in absurd (omega arith)
  column_power (r ∷ rs) g n ns e = go (entry_of t v r c) (entry_over t v r c) g.0 (λ q. column_power rs g.1 n ns q) e
    where
      go : (x : Entry) → Over (power_of t c) x → EntryGood x → (numbers_of (column_entries t v c rs) ≡ n ∷ ns → limits.Power (power_of t c))
          → numbers_of (x ∷ column_entries t v c rs) ≡ n ∷ ns → limits.Power (power_of t c)
      go Absent o w on q = on q
      go (Scaled z p) o w on q = subst (λ (m : ℕ). limits.Power m) o w.1

  pub good_summary : (rs : List (List ℕ)) → AllGood (column_entries t v c rs)
      → Summarises (present_of (column_entries t v c rs)) (summary_of (present_of (column_entries t v c rs)))
  unfolding Summarises values_of
  good_summary rs g = go (numbers_of (column_entries t v c rs)) refl
    where
      go : (ns : List ℤ) → numbers_of (column_entries t v c rs) ≡ ns
          → Summarises (present_of (column_entries t v c rs)) (summary_of (present_of (column_entries t v c rs)))
      go [] e = rw (column_values t v c rs, e) summary_none
      go (n ∷ ns) e =
          let p = power_of t c in
          let q = summary_says p (column_power rs g n ns e) n ns
          (subst (λ (l : List ℤ). Each l) e (each_scaled (column_entries t v c rs) g)) in
          rw (column_values t v c rs, e) (
            q.counted ∙ sym (length_values p (n ∷ ns)),
            extremes p (n ∷ ns) (summary_of (values_of p (n ∷ ns))) q,
          )

-- THE LAW, for every column of a sound file
pub sound_summary : (t : List ℤ) (d : List ℕ) (n k : ℕ) → file_verdict t d ≡ sound_with n → k < length (table_columns t)
    → let xs = present_of (column_entries t (rows_of t) (get_or (table_columns t) k (of_row 0)) (ended_of (records_of d))) in
    Summarises xs (summary_of xs)
sound_summary t d n k e h =
    let s = file_sound t d n e in
    let g : Tested t (header_of t) = record { good = s.0; head = refl } in
    let rs = ended_of (records_of d) in
    good_summary t (rows_of t) (column_at (table_columns t) k) rs (column_good t (rows_of t) (table_columns t) rs k h (all_good g rs s.1))
