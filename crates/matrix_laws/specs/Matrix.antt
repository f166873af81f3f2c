-- ONE OUTCOME, the layout, and where the presence byte and the value of each record and column stand.
-- Assumes nothing.
use Rattle.std.specs.Prelude.{◌≡◌, refl, List, [], ◌∷◌, ◌++◌, ℕ, zero, suc, ◌+◌, ◌*◌, ◌≤◌, ◌<◌, ℤ}
use Rattle.std.specs.Prelude.{pos, length, get_or, take, drop}
use Rattle.std.proofs.Common.{sym, ap, ◌∙◌, suc-mul, mul-le-mul_right, arith}
use Rattle.std.proofs.Common.{length-append, get_or-drop, drop-drop, append_assoc, take_at}
use Rattle.std.proofs.Math.Seq.{drop-append-add}
use Rattle.std.specs.Float.{binary64}
use Rattle.std.specs.Float.Ieee.{to_bits}
use Rattle.sound.specs.rule.Rows.{rows_of}
use Rattle.fields.specs.rule.Field.{missing, members, holds, is_member}
use Rattle.little.specs.rule.Bytes.{little_bytes, put_at}
use Rattle.little.specs.Runs.{length_put_at}
use Rattle.summary.specs.rule.Summary.{summary_of}
use Rattle.matrix.specs.declared.Entry.{Entry}
use Rattle.matrix.specs.declared.Entry.TheVariants.{Absent, Scaled}
use Rattle.matrix.specs.rule.Entry.{presence_of, float_of, flags_of, value_bytes, present_of}
use Rattle.matrix.specs.Put.{put_entries}
use Rattle.matrix.specs.rule.Bytes.{presence_at, values_at, total_of, header_bytes, summary_bytes}
use Rattle.matrix.specs.Entry.{length_flags, length_values, length_entries}
use Rattle.matrix.specs.Bytes.{length_header, length_summary}
use Rattle.matrix.specs.Stride.{presence_there, bytes_there}
use Rattle.columns.specs.rule.Columns.{Column, entry_of, member_entry, number_entry}
use Rattle.matrices.specs.rule.Matrix.{table_columns, matrix_entries, column_entries, summaries_of, matrix_of, MatrixVerdict}
use Rattle.matrices.specs.rule.Matrix.{MatrixWritten}
use Rattle.matrices.specs.Records.{length_all}
use Rattle.matrices.specs.Entries.{column_at, record_at, all_at_lem}
use Rattle.matrices.specs.Summaries.{same_put}
use Rattle.matrices.specs.Stand.{length_summaries, summary_at_lem}
use Rattle.matrices.specs.Written.{whole_put}

-- ONE OUTCOME: answer and output are settled
pub matrix_one : {t : List ℤ} {d out o₁ o₂ : List ℕ} {v₁ v₂ : MatrixVerdict} → MatrixWritten t d out o₁ v₁ → MatrixWritten t d out o₂ v₂
    → (v₁ ≡ v₂) × (o₁ ≡ o₂)
matrix_one x y = (x.says ∙ sym y.says, x.leaves ∙ sym y.leaves)

-- THE TOTAL is the length: header 24, summaries 24 each, presence 1 each, values 8 each
pub matrix_length : (t : List ℤ) (rs : List (List ℕ)) → length (matrix_of t rs) ≡ total_of (length rs) (length (table_columns t))
unfolding matrix_of
matrix_length t rs =
    let cs = table_columns t in
    let es = matrix_entries t (rows_of t) cs rs in
    let h = header_bytes (length rs) (length cs) in
    let s = summaries_of t (rows_of t) rs cs in
    omega (
      arith,
      length-append h (s ++ (flags_of es ++ value_bytes es)),
      length-append s (flags_of es ++ value_bytes es),
      length-append (flags_of es) (value_bytes es),
      length_header (length rs) (length cs),
      length_summaries t (rows_of t) rs cs,
      length_flags es,
      length_values es,
      length_all t (rows_of t) cs rs,
    )

-- WHERE THE CELLS STAND in the output of a matrix that was written
module _ (t : List ℤ) (rs : List (List ℕ)) (out : List ℕ) (inside : total_of (length rs) (length (table_columns t)) ≤ length out) where
  abbrev cs : List Column
  cs = table_columns t

  abbrev es : List Entry
  es = matrix_entries t (rows_of t) cs rs

  abbrev first : List ℕ
  first = put_at out 0 (header_bytes (length rs) (length cs))

  long_first : length first ≡ length out
  long_first = length_put_at out 0 (header_bytes (length rs) (length cs))

  whole : put_at out 0 (matrix_of t rs)
      ≡ put_at (put_entries first (presence_at (length cs)) (values_at (length rs) (length cs)) es) 24 (summaries_of t (rows_of t) rs cs)
  whole = sym (whole_put t rs out (length rs) (length cs) refl refl)

  behind : presence_at (length cs) + length es ≤ values_at (length rs) (length cs)
  behind = omega (arith, length_all t (rows_of t) cs rs)

  within : values_at (length rs) (length cs) + 8 * length es ≤ length first
  within = omega (arith, length_all t (rows_of t) cs rs, long_first, inside)

  -- what stands behind the summaries is what was put there
  kept : drop (presence_at (length cs)) (put_at out 0 (matrix_of t rs))
      ≡ drop (presence_at (length cs)) (put_entries first (presence_at (length cs)) (values_at (length rs) (length cs)) es)
  kept =
      ap (drop (presence_at (length cs))) whole
      ∙ same_put (put_entries first (presence_at (length cs)) (values_at (length rs) (length cs)) es) (presence_at (length cs)) 24
      (summaries_of t (rows_of t) rs cs)
      (omega (arith, length_summaries t (rows_of t) rs cs))

  -- THE SUMMARY of column k, 24 bytes
  pub summary_is : (k : ℕ) → k < length cs → take 24 (drop (24 + 24 * k) (put_at out 0 (matrix_of t rs)))
      ≡ summary_bytes (summary_of (present_of (column_entries t (rows_of t) (column_at cs k) rs)))
  summary_is k h =
      let x = put_entries first (presence_at (length cs)) (values_at (length rs) (length cs)) es in
      let l : length x ≡ length out = length_entries first (presence_at (length cs)) (values_at (length rs) (length cs)) es ∙ long_first in
      ap (λ (w : List ℕ). take 24 (drop (24 + 24 * k) w)) whole
      ∙ summary_at_lem t (rows_of t) rs cs x (omega (arith, l, inside)) k h

  module _ (n k : ℕ) (low : n < length rs) (col : k < length cs) where
    cell_low : n * length cs + k < length es
    cell_low = omega (
      arith,
      length_all t (rows_of t) cs rs,
      suc-mul n (length cs),
      mul-le-mul_right {m = suc n} {n = length rs} (length cs) low,
    )

    -- THE PRESENCE BYTE of record n, column k
    pub presence_is : get_or (put_at out 0 (matrix_of t rs)) (presence_at (length cs) + (n * length cs + k)) 0
        ≡ presence_of (entry_of t (rows_of t) (record_at rs n) (column_at cs k))
    presence_is =
        let p = presence_at (length cs) in
        let j = n * length cs + k in
        let s = put_entries first p (values_at (length rs) (length cs)) es in
        sym (get_or-drop p (put_at out 0 (matrix_of t rs)) j 0) ∙ ap (λ (l : List ℕ). get_or l j 0) kept ∙ get_or-drop p s j 0
        ∙ presence_there first p (values_at (length rs) (length cs)) es behind within j cell_low
        ∙ ap presence_of (all_at_lem t (rows_of t) cs rs n k low col)

    -- THE EIGHT BYTES of record n, column k
    pub value_is : take 8 (drop (values_at (length rs) (length cs) + 8 * (n * length cs + k)) (put_at out 0 (matrix_of t rs)))
        ≡ little_bytes 8 (to_bits binary64 (float_of (entry_of t (rows_of t) (record_at rs n) (column_at cs k))))
    value_is =
        let p = presence_at (length cs) in
        let j = n * length cs + k in
        let v = values_at (length rs) (length cs) in
        let s = put_entries first p v es in
        let m = length rs * length cs + 8 * j in
        let e : p + m ≡ v + 8 * j = omega arith in
        ap (λ (i : ℕ). take 8 (drop i (put_at out 0 (matrix_of t rs)))) (sym e)
        ∙ ap (take 8) (sym (drop-drop m p (put_at out 0 (matrix_of t rs))) ∙ ap (drop m) kept ∙ drop-drop m p s)
        ∙ ap (λ (i : ℕ). take 8 (drop i s)) e
        ∙ bytes_there first p v es behind within j cell_low
        ∙ ap (λ (x : Entry). little_bytes 8 (to_bits binary64 (float_of x))) (all_at_lem t (rows_of t) cs rs n k low col)

-- MISSING has presence 0 and value zero, eight bytes of it
pub missing_zero : (c : ℕ) (p : ℕ) → (member_entry c (holds missing) ≡ Absent) × (number_entry p (holds missing) ≡ Absent)
unfolding member_entry number_entry
missing_zero c p = (refl, refl)

pub absent_zero : (presence_of Absent ≡ 0) × (little_bytes 8 (to_bits binary64 (float_of Absent)) ≡ 0 ∷ 0 ∷ 0 ∷ 0 ∷ 0 ∷ 0 ∷ 0 ∷ 0 ∷ [])
unfolding presence_of float_of little_bytes to_bits
absent_zero = (refl, refl)

-- THE EMPTY SET is present, with zeros
pub empty_present : (c : ℕ) → (member_entry c (holds (members [])) ≡ Scaled (pos 0) 1) × (presence_of (Scaled (pos 0) 1) ≡ 1)
unfolding member_entry presence_of is_member
empty_present c = (refl, refl)

-- a column's summary stands at its place among the summaries
summary_at : (t : List ℤ) (v : ℕ) (rs : List (List ℕ)) (cs : List Column) (k : ℕ) (rest : List ℕ) → k < length cs
    → take 24 (drop (24 * k) (summaries_of t v rs cs ++ rest))
    ≡ summary_bytes (summary_of (present_of (column_entries t v (column_at cs k) rs)))
unfolding summaries_of
summary_at t v rs [] k rest h = absurd (omega arith)
summary_at t v rs (c ∷ cs) zero rest h =
    let s = summary_of (present_of (column_entries t v c rs)) in
    ap (take 24) (append_assoc (summary_bytes s) (summaries_of t v rs cs) rest)
    ∙ take_at (summary_bytes s) (summaries_of t v rs cs ++ rest) 24 (length_summary s)
summary_at t v rs (c ∷ cs) (suc k) rest h =
    let s = summary_of (present_of (column_entries t v c rs)) in
    let b = summary_bytes s in
    let e : 24 * suc k ≡ length b + 24 * k = omega (arith, length_summary s) in
    ap (λ (i : ℕ). take 24 (drop i ((b ++ summaries_of t v rs cs) ++ rest))) e
    ∙ ap (λ (l : List ℕ). take 24 (drop (length b + 24 * k) l)) (append_assoc b (summaries_of t v rs cs) rest)
    ∙ ap (take 24) (drop-append-add b (summaries_of t v rs cs ++ rest) (24 * k))
    ∙ summary_at t v rs cs k rest (omega arith)
