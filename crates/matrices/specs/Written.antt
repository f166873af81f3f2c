-- The parts of a matrix put one behind the other are the matrix; what stands behind the summaries are the entries of the records.
-- Assumes nothing.
use Rattle.std.specs.Prelude.{◌≡◌, Bool, true, List, ◌++◌, ℕ, ◌-◌, ◌*◌, ◌/◌, ◌≤◌, ◌<◌, ltb, ℤ, length}
use Rattle.std.proofs.Math.Path.{refl, ap}
use Rattle.std.proofs.Common.{sym, ◌∙◌, div-lt_iff_lt-mul, le-div_iff_mul-le, mul_left_comm, arith}
use Rattle.std.proofs.Math.Bool.{false}
use borrow.Author.Tests.{lt-ltb, le-ltb, ltb-true, ltb-false, eq-eqb, ne_eqb}
use Rattle.below.specs.Below.{holds_not}
use Rattle.cuts.specs.rule.Records.{records_of}
use Rattle.layout.specs.declared.Header.{Header}
use Rattle.sound.specs.rule.Rows.{rows_of}
use Rattle.files.specs.rule.File.{FileVerdict, sound_with, bad_table, fault_in, file_verdict}
use Rattle.files.specs.File.{sound_so_far}
use Rattle.files.specs.rule.Tested.{Tested}
use Rattle.files.specs.Tested.{tested_rows}
use Rattle.little.specs.rule.Bytes.{put_at}
use Rattle.little.specs.Runs.{put_next, put_either}
use Rattle.matrix.specs.rule.Entry.{flags_of, value_bytes}
use Rattle.matrix.specs.Put.{put_entries}
use Rattle.matrix.specs.rule.Bytes.{presence_at, values_at, total_of, header_bytes}
use Rattle.matrix.specs.Entry.{length_flags}
use Rattle.matrix.specs.Bytes.{length_header}
use Rattle.columns.specs.rule.Columns.{columns_from}
use Rattle.matrices.specs.rule.Matrix.{ended_of, table_columns, matrix_entries, summaries_of, matrix_of}
use Rattle.matrices.specs.rule.Matrix.{MatrixVerdict, refused_as, refused, written, size_verdict, verdict_after, matrix_verdict}
use Rattle.matrices.specs.rule.Matrix.{matrix_after, MatrixWritten}
use Rattle.matrices.specs.Records.{length_all, file_sound}
use Rattle.matrices.specs.Stand.{length_summaries}

-- a file that was judged sound, with so many records
abbrev pub SoundFile : List ℤ → List ℕ → ℕ → Type 0
SoundFile t d n = file_verdict t d ≡ sound_with n

-- ---- header, entries, summaries: one behind the other they are the matrix
pub whole_put : (t : List ℤ) (rs : List (List ℕ)) (out : List ℕ) (n c : ℕ) → n ≡ length rs → c ≡ length (table_columns t)
    → put_at (put_entries (put_at out 0 (header_bytes n c)) (presence_at c) (values_at n c)
    (matrix_entries t (rows_of t) (table_columns t) rs)) 24
    (summaries_of t (rows_of t) rs (table_columns t))
    ≡ put_at out 0 (matrix_of t rs)
unfolding matrix_of
whole_put t rs out n c en ec =
    let cs = table_columns t in
    let es = matrix_entries t (rows_of t) cs rs in
    let h = header_bytes n c in
    let s = summaries_of t (rows_of t) rs cs in
    let f = flags_of es in
    let w = value_bytes es in
    let lh = length_header n c in
    let ls = length_summaries t (rows_of t) rs cs in
    let lf = length_flags es in
    let le = length_all t (rows_of t) cs rs in
    let m : length rs * length cs ≡ n * c = rw (en, ec) in
    rw (← en, ← ec)
    (put_either (put_at (put_at out 0 h) (presence_at c) f) 24 s (values_at n c) w (omega (arith, ls, ec))
    ∙ ap (λ (l : List ℕ). put_at l (values_at n c) w) (put_either (put_at out 0 h) 24 s (presence_at c) f (omega (arith, ls, ec)))
    ∙ put_next (put_at (put_at out 0 h) 24 s) (presence_at c) f (values_at n c) w (omega (arith, lf, le, m))
    ∙ put_next (put_at out 0 h) 24 s (presence_at c) (f ++ w) (omega (arith, ls, ec))
    ∙ put_next out 0 h 24 (s ++ (f ++ w)) (omega (arith, lh)))

-- ---- filled from start to end
pub filled : {t : List ℤ} {h : Header} → Tested t h → (d out : List ℕ) (n c : ℕ) {out1 out2 : List ℕ} → SoundFile t d n
    → c ≡ length (table_columns t) → out1 ≡ put_at out 0 (header_bytes n c)
    → out2 ≡ put_at (put_entries out1 (presence_at c) (values_at n c)
    (matrix_entries t h.rows (columns_from t h.rows 0 h.rows) (ended_of (records_of d)))) 24
    (summaries_of t h.rows (ended_of (records_of d)) (columns_from t h.rows 0 h.rows))
    → out2 ≡ put_at out 0 (matrix_of t (ended_of (records_of d)))
filled {t} {h} g d out n c {out1} {out2} sound ec e1 e2 =
    let rs = ended_of (records_of d) in
    let two : out2 ≡ put_at (put_entries out1 (presence_at c) (values_at n c) (matrix_entries t (rows_of t) (table_columns t) rs)) 24
    (summaries_of t (rows_of t) rs (table_columns t)) = rw (tested_rows g) at e2 in
    two ∙ ap (λ (x : List ℕ). put_at (put_entries x (presence_at c) (values_at n c) (matrix_entries t (rows_of t) (table_columns t) rs)) 24
    (summaries_of t (rows_of t) rs (table_columns t))) e1
    ∙ whole_put t rs out n c (file_sound t d n sound).2 ec

-- ---- sizes
pub large_columns : (n c : ℕ) → 699049 < c → ltb 16777216 (total_of n c) ≡ true
large_columns n c h = lt-ltb 16777216 (total_of n c) (omega arith)

pub large_records : (n c : ℕ) → 1 ≤ c → c ≤ 699049 → (b : Bool) → b ≡ ltb ((16777216 - 24 - 24 * c) / (9 * c)) n → b
    ≡ ltb 16777216 (total_of n c)
large_records n c some few b e = e ∙ go (ltb ((16777216 - 24 - 24 * c) / (9 * c)) n) refl
  where
    m : n * (9 * c) ≡ 9 * (n * c)
    m = mul_left_comm n 9 c

    pos_c : 0 < 9 * c
    pos_c = omega arith

    go : (x : Bool) → ltb ((16777216 - 24 - 24 * c) / (9 * c)) n ≡ x → x ≡ ltb 16777216 (total_of n c)
    go true p =
        let q = (div-lt_iff_lt-mul pos_c).0 (ltb-true ((16777216 - 24 - 24 * c) / (9 * c)) n p) in
        sym (lt-ltb 16777216 (total_of n c) (omega (arith, q, m)))
    go false p =
        let q = (le-div_iff_mul-le pos_c).0 (ltb-false ((16777216 - 24 - 24 * c) / (9 * c)) n p) in
        sym (le-ltb 16777216 (total_of n c) (omega (arith, q, m)))

-- ---- what is answered
module _ (t : List ℤ) (d out : List ℕ) where
  pub refused_file : {v : FileVerdict} → v ≡ file_verdict t d → sound_so_far v ≡ false → MatrixWritten t d out out (refused_as v)
  unfolding matrix_verdict verdict_after matrix_after sound_so_far
  refused_file {v} e s = record {
    says = go v s ∙ ap (verdict_after t (length out)) e;
    leaves = gone v s
        ∙ ap (λ (x : FileVerdict). matrix_after (verdict_after t (length out) x) (matrix_of t (ended_of (records_of d))) out) e;
  }
    where
      go : (w : FileVerdict) → sound_so_far w ≡ false → refused_as w ≡ verdict_after t (length out) w
      go (sound_with n) q = holds_not refl q
      go bad_table q = refl
      go (fault_in n x) q = refl

      gone : (w : FileVerdict) → sound_so_far w ≡ false → out
          ≡ matrix_after (verdict_after t (length out) w) (matrix_of t (ended_of (records_of d))) out
      gone (sound_with n) q = holds_not refl q
      gone bad_table q = refl
      gone (fault_in n x) q = refl

  module _ {n : ℕ} (sound : SoundFile t d n) where
    sized : matrix_verdict t d (length out) ≡ size_verdict n (length (table_columns t)) (length out)
    unfolding matrix_verdict verdict_after
    sized = ap (verdict_after t (length out)) sound

    as_sized : {w : MatrixVerdict} {out' : List ℕ} → size_verdict n (length (table_columns t)) (length out) ≡ w
        → out' ≡ matrix_after w (matrix_of t (ended_of (records_of d))) out → MatrixWritten t d out out' w
    as_sized e o = record {
      says = sym (sized ∙ e);
      leaves = o
          ∙ ap (λ (x : MatrixVerdict). matrix_after x (matrix_of t (ended_of (records_of d))) out) (sym (sized ∙ e));
    }

    pub no_column : {c : ℕ} → c ≡ length (table_columns t) → c ≡ 0 → MatrixWritten t d out out (refused 80)
    unfolding size_verdict matrix_after
    no_column e z = as_sized (rw (eq-eqb (length (table_columns t)) 0 (sym e ∙ z))) refl

    pub too_large : {c : ℕ} → c ≡ length (table_columns t) → (c ≡ 0 → ⊥) → ltb 16777216 (total_of n c) ≡ true
        → MatrixWritten t d out out (refused 81)
    unfolding size_verdict matrix_after
    too_large {c} e z l = as_sized (rw (← e, ne_eqb c 0 z, l)) refl

    pub short_room : {c : ℕ} → c ≡ length (table_columns t) → (c ≡ 0 → ⊥) → ltb 16777216 (total_of n c) ≡ false → length out < total_of n c
        → MatrixWritten t d out out (refused 82)
    unfolding size_verdict matrix_after
    short_room {c} e z l s = as_sized (rw (← e, ne_eqb c 0 z, l, lt-ltb (length out) (total_of n c) s)) refl

    pub all_written : {c : ℕ} {out' : List ℕ} → c ≡ length (table_columns t) → (c ≡ 0 → ⊥) → ltb 16777216 (total_of n c) ≡ false
        → total_of n c
        ≤ length out
        → out' ≡ put_at out 0 (matrix_of t (ended_of (records_of d))) → MatrixWritten t d out out' (written (total_of n c) n c)
    unfolding size_verdict matrix_after
    all_written {c} e z l s o = as_sized (rw (← e, ne_eqb c 0 z, l, le-ltb (length out) (total_of n c) s)) o
